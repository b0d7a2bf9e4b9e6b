use Rattle.std.proofs.Common.{◌≡◌, [], ◌∷◌, pos, length, ap, sym, subst, ◌∙◌}
use Rattle.std.specs.List.{flat_map, AllByRecursion}
use Rattle.std.specs.Option.{option_map}
use Rattle.arrow_spec.specs.Flat.{order_by}
use Rattle.arrow_spec.specs.Framing.{validity_bytes}
use Rattle.arrow_buffers.specs.Rows.{part, null_rows}
use Rattle.arrow_buffers.proofs.Parts.{length-part}
use Rattle.arrow_arrays.specs.KeysOf.{keys_in, index_in}
use Rattle.ipc_bodies.specs.Fitting.{AllFit}
use Rattle.ipc_bodies.proofs.Adding.{appends_as}
use Rattle.ipc_write_arrays.specs.Dictionaries.{KeyFits}
use Rattle.ipc_write_arrays.specs.Outputs.{Outputs, put_behind}
use Rattle.ipc_write_arrays.specs.OutputsOf.{outputs_of}
use Rattle.ipc_write_arrays.specs.Pieces.{key_written}
use Rattle.ipc_write_arrays.proofs.Adding.{if_ok}
use Rattle.ipc_write_arrays.proofs.Behind.{more_err, more_ok}
use Rattle.ipc_write_arrays.proofs.dictionaries.add_dictionary.Goals as goal

pub returns-clause-ok : goal.returns-clause-ok
returns-clause-ok c =
    let h = c.args.array.now.head in
    let o = c.args.offset in
    let n = c.args.rows in
    let order = order_by c.args.is_little_endian in
    let k = c.keys.result.now in
    let old : Outputs = outputs_of c.args.out.now in
    let v = option_map (part o n) h.validity in
    let bits = c.in_ok-validity.ensures ∙ ap (option_map (part o n)) c.validity-bits.ensures.bits in
    let rows : n ≡ length (part o n h.keys) = sym (length-part h.keys o n c.requires.within) in
    let told : flat_map (key_written order (index_in k)) (part o n (keys_in k)) ≡ flat_map (key_written order h.index) (part o n h.keys) =
    ap (λ t. flat_map (key_written order t) (part o n (keys_in k))) c.keys.ensures.index ∙ ap (λ ks. flat_map (key_written order h.index) (part o n ks)) c.keys.ensures.keys in
    let top = c.in_ok-add_top.ensures.ok ∙ ap (λ w. put_behind (record { length = pos n; null_count = pos (null_rows w) } ∷ []) (validity_bytes w ∷ []) [] old) bits
    ∙ ap (λ m. put_behind (record { length = pos m; null_count = pos (null_rows v) } ∷ []) (validity_bytes v ∷ []) [] old) rows in
    more_ok c.add_keys.result _ _ _ [] old _ _ _ _ top (appends_as c.add_keys.result _ _ _ _ (ap (λ bs. bs ∷ []) told) c.add_keys.ensures.bytes)

pub returns-clause-err : goal.returns-clause-err
returns-clause-err c = more_err c.add_keys.result _ _ _ [] (outputs_of c.args.out.now) _ _ _ _ c.in_ok-add_top.ensures.ok c.add_keys.ensures.bytes

pub returns-clause-fit : goal.returns-clause-fit
returns-clause-fit c =
    let h = c.args.array.now.head in
    let o = c.args.offset in
    let n = c.args.rows in
    let k = c.keys.result.now in
    if_ok c.add_keys.result
    (λ (p : AllFit (KeyFits (index_in k)) (part o n (keys_in k))).
    (subst (λ t. AllByRecursion (λ key. KeyFits t key) (part o n h.keys)) c.keys.ensures.index (subst (λ ks. AllByRecursion (λ key. KeyFits (index_in k) key) (part o n ks)) c.keys.ensures.keys p.each), tt))
    c.add_keys.ensures.fit
