use Rattle.std.proofs.Common.{◌≡◌, ℕ, ◌+◌, ◌<◌, ◌≤◌, ◌^◌, List, [], ◌∷◌, ℤ, Option, Bool, true, pos, length, ap, sym, refl, ◌∙◌, arith}
use Rattle.std.specs.Option.{option_map}
use Rattle.std.specs.List.{AllByRecursion}
use Rattle.arrow_spec.specs.Counts.{magnitude}
use Rattle.arrow_spec.specs.Flat.{order_by}
use Rattle.arrow_spec.specs.Framing.{validity_bytes}
use Rattle.arrow_spec.specs.Kinds.{Offsets, small, large}
use Rattle.arrow_spec.specs.declared.message.FieldNode.{FieldNode}
use Rattle.arrow_buffers.specs.Rows.{part, null_rows}
use Rattle.arrow_buffers.specs.Variable.{place_at, are_offsets, variable_rows}
use Rattle.arrow_buffers.proofs.Rising.{some_offset, offset_between}
use Rattle.arrow_buffers.proofs.Parts.{length-part}
use Rattle.arrow_arrays.specs.Heads.{Listed, listed}
use Rattle.arrow_arrays.specs.Parts.{nested, none}
use Rattle.arrow_arrays.specs.Nodes.{node_in}
use Rattle.arrow_arrays.specs.OffsetsOf.{offsets_in, width_in}
use Rattle.arrow_arrays.proofs.HeadSliced.{place_at-part}
use Rattle.ipc_write_arrays.specs.Trims.{lists_of, listed_trim}
use Rattle.ipc_bodies.specs.Fitting.{offset_limit}
use Rattle.ipc_bodies.specs.Pieces.{offset_bytes}
use Rattle.ipc_write_arrays.specs.Outputs.{Outputs, put_behind}
use Rattle.ipc_write_arrays.specs.OutputsOf.{outputs_of}
use Rattle.ipc_write_arrays.proofs.Adding.{if_err}
use Rattle.ipc_write_arrays.proofs.Behind.{kept_pieces, more_pieces}
use Rattle.ipc_write_arrays.proofs.TrimLaws.{bytes-trim, below-trim, rows-trim}
use Rattle.ipc_write_arrays.proofs.RoundTripPlaces.{offset_fits}
use Rattle.ipc_write_arrays.proofs.trees.add_listed_top.Goals as goal

limit_within : (w : Offsets) → offset_limit w ≤ 2 ^ 63
limit_within small = omega arith
limit_within large = omega arith

last_small : (w : Offsets) (o n : ℕ) (os : List ℤ) → o + n < length os → AllByRecursion (λ x. magnitude x < offset_limit w) (part o (n + 1) os) → place_at os (o + n) < 2 ^ 63
last_small w o n os lt h =
    let l = length-part os o (n + 1) (omega arith) in
    omega (arith, offset_fits w (part o (n + 1) os) n h (omega (arith, l)), place_at-part o (n + 1) n os (omega arith), limit_within w)

same_node : (l : Listed) (o n limit : ℕ) (v : Option (List Bool)) → are_offsets l.offsets limit ≡ true → o + n ≤ variable_rows l.offsets → v ≡ option_map (part o n) l.validity
    → record { length = pos n; null_count = pos (null_rows v) } ≡ node_in (nested (listed (listed_trim o n l)) none)
same_node l o n limit v e le f = rw (f, rows-trim o n (listed l) (limit ∷ []) e le) refl

pub returns-clause-ok : goal.returns-clause-ok
returns-clause-ok c =
    let l = lists_of c.args.offsets.now (option_map (λ b. b.now) c.args.held) in
    let o = c.args.offset in
    let n = c.args.rows in
    let order = order_by c.args.is_little_endian in
    let old : Outputs = outputs_of c.args.out.now in
    let v = option_map (part o n) l.validity in
    let node : Option (List Bool) → FieldNode = λ w. record { length = pos n; null_count = pos (null_rows w) } in
    let own = node_in (nested (listed (listed_trim o n l)) none) in
    let bytes = offset_bytes order l.width (part o (n + 1) l.offsets) in
    let some = some_offset l.offsets c.args.limit c.requires.rise in
    let top = c.in_ok-add_top.ensures.ok ∙ ap (λ w. put_behind (node w ∷ []) (validity_bytes w ∷ []) [] old) c.in_ok-validity.ensures in
    more_pieces _ _ (bytes ∷ []) [] old _ _ _ _ top c.in_ok-add_list_offsets.ensures.bytes
    ∙ ap (λ m. put_behind (m ∷ []) (validity_bytes v ∷ bytes ∷ []) [] old) (same_node l o n c.args.limit v c.requires.rise c.requires.within refl)
    ∙ ap (λ bs. put_behind (own ∷ []) (validity_bytes v ∷ bs ∷ []) [] old) (sym (bytes-trim order l.width o n l.offsets (omega (arith, c.requires.within))))

pub returns-in_err-add_list_offsets-clause-err : goal.returns-in_err-add_list_offsets-clause-err
returns-in_err-add_list_offsets-clause-err c =
    if_err c.from_residual-in_err-add_list_offsets.result c.from_residual-in_err-add_list_offsets.ensures.0 (kept_pieces _ _ [] (outputs_of c.args.out.now) _ _ _ _ c.in_ok-add_top.ensures.ok c.in_err-add_list_offsets.ensures.bytes)

pub returns-clause-fit : goal.returns-clause-fit
returns-clause-fit c =
    let l = lists_of c.args.offsets.now (option_map (λ b. b.now) c.args.held) in
    record {
      each = below-trim (offset_limit l.width) (place_at l.offsets c.args.offset) (part c.args.offset (c.args.rows + 1) l.offsets) c.in_ok-add_list_offsets.ensures.below.each;
    }

pub returns-clause-ordered : goal.returns-clause-ordered
returns-clause-ordered c =
    let os = offsets_in c.args.offsets.now in
    let o = c.args.offset in
    let n = c.args.rows in
    let some = some_offset os c.args.limit c.requires.rise in
    omega (arith, c.ends_between-ends.ensures.first, c.ends_between-ends.ensures.last, offset_between os c.args.limit o c.requires.rise (o + n) (omega arith) (omega (arith, c.requires.within)))

pub returns-clause-small : goal.returns-clause-small
returns-clause-small c =
    let os = offsets_in c.args.offsets.now in
    let o = c.args.offset in
    let n = c.args.rows in
    let some = some_offset os c.args.limit c.requires.rise in
    omega (arith, c.ends_between-ends.ensures.last, last_small (width_in c.args.offsets.now) o n os (omega (arith, c.requires.within)) c.in_ok-add_list_offsets.ensures.below.each)
