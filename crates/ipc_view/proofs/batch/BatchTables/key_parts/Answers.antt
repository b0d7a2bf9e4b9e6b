use Rattle.std.proofs.Common.{◌≡◌, ◌∙◌, ap, sym, subst, to_z, of_z, w64}
use Rattle.std.proofs.lemmas.Int.{to_z-of_z}
use Rattle.arrow_spec.specs.Readings.{Refuses, is_absent}
use Rattle.view_types.specs.Tops.{top_in}
use Rattle.view_types.specs.Views.{Top}
use Rattle.ipc_view.specs.Built.{batch_of, place_of}
use Rattle.ipc_view.specs.Dictionaries.{IsKeysTop, key_causes, key_top_faults, shown_in}
use Rattle.ipc_view.proofs.Answered.{err_from}
use Rattle.ipc_view.proofs.Keys.{is_keys_top, key_buffers, key_top_told, no_keys, number_bits, number_values}
use Rattle.ipc_view.proofs.batch.BatchTables.key_parts.Goals as goal

pub returns-then-rows-eq0-clause-gives : goal.returns-then-rows-eq0-clause-gives
returns-then-rows-eq0-clause-gives c =
    let t = c.args.self.now in
    let m = batch_of t in
    let p = place_of c.args.place in
    record {
      ok = (
        ap (key_top_faults m c.args.keys c.args.held (is_absent (shown_in t.dictionaries.now c.args.id)) c.args.id p) c.if-rows-eq0.true,
        no_keys m c.args.keys c.args.held p c.args.rows (top_in c.nothing.result) t.input.now t.is_big_endian c.if-rows-eq0.true c.nothing.ensures,
      );
      err = tt;
    }

pub returns-then-rows-eq0-clause-input : goal.returns-then-rows-eq0-clause-input
returns-then-rows-eq0-clause-input c = ap (λ (x : Top). x.input) c.nothing.ensures

pub returns-in_err-parts-clause-gives : goal.returns-in_err-parts-clause-gives
returns-in_err-parts-clause-gives c =
    let t = c.args.self.now in
    err_from c.from_residual.result c.in_err-parts.field-0.0 _ _ c.from_residual.ensures.0 c.from_residual.ensures.1
    (key_buffers (batch_of t) c.args.keys c.args.held (is_absent (shown_in t.dictionaries.now c.args.id)) c.args.id (place_of c.args.place) c.args.rows c.in_err-parts.field-0.0 c.if-rows-eq0.false c.in_err-parts.ensures.gives.err)

pub check_keys-requires : goal.check_keys-requires
check_keys-requires c =
    let m = batch_of c.args.self.now in
    let p = place_of c.args.place in
    let s = c.in_ok-parts.ensures.gives.ok.1 in
    record {
      values = number_values m c.args.keys p c.args.rows (top_in c.in_ok-parts.parts) s;
      bits = number_bits m c.args.keys p c.args.rows (top_in c.in_ok-parts.parts) s;
    }

pub returns-in_err-check_keys-clause-gives : goal.returns-in_err-check_keys-clause-gives
returns-in_err-check_keys-clause-gives c =
    let t = c.args.self.now in
    let e : to_z w64 (of_z w64 c.args.id) ≡ c.args.id = to_z-of_z w64 c.args.id c.ranges.id in
    let absent = is_absent (shown_in t.dictionaries.now c.args.id) in
    let a : c.is_absent.result ≡ absent = c.is_absent.ensures ∙ ap (λ z. is_absent (shown_in t.dictionaries.now z)) e in
    let top = top_in c.in_ok-parts.parts in
    let s = c.in_ok-parts.ensures.gives.ok in
    let told = key_top_told (batch_of t) c.args.keys c.args.held absent c.args.id (place_of c.args.place) c.args.rows top c.if-rows-eq0.false s.1 s.0 in
    let f = c.in_err-check_keys.field-0.0 in
    err_from c.from_residual-in_err-check_keys.result f _ _ c.from_residual-in_err-check_keys.ensures.0 c.from_residual-in_err-check_keys.ensures.1
    (subst (λ es. Refuses f es) (sym told)
    (subst (λ z. Refuses f (key_causes top c.args.keys c.args.held absent z)) e (subst (λ b. Refuses f (key_causes top c.args.keys c.args.held b (to_z w64 (of_z w64 c.args.id)))) a c.in_err-check_keys.ensures.gives.err)))

pub returns-clause-gives : goal.returns-clause-gives
returns-clause-gives c =
    let t = c.args.self.now in
    let m = batch_of t in
    let p = place_of c.args.place in
    let e : to_z w64 (of_z w64 c.args.id) ≡ c.args.id = to_z-of_z w64 c.args.id c.ranges.id in
    let absent = is_absent (shown_in t.dictionaries.now c.args.id) in
    let a : c.is_absent.result ≡ absent = c.is_absent.ensures ∙ ap (λ z. is_absent (shown_in t.dictionaries.now z)) e in
    let top = top_in c.in_ok-parts.parts in
    let s = c.in_ok-parts.ensures.gives.ok in
    let told = key_top_told m c.args.keys c.args.held absent c.args.id p c.args.rows top c.if-rows-eq0.false s.1 s.0 in
    let g = c.in_ok-check_keys.ensures.gives.ok in
    record {
      ok = (
        told ∙ ap (key_causes top c.args.keys c.args.held absent) (sym e) ∙ ap (λ b. key_causes top c.args.keys c.args.held b (to_z w64 (of_z w64 c.args.id))) (sym a) ∙ g.0,
        subst (IsKeysTop m c.args.keys c.args.held p c.args.rows) (sym c.as_keys.ensures) (is_keys_top m c.args.keys c.args.held p c.args.rows top s.1 g.1),
      );
      err = tt;
    }

pub returns-clause-input : goal.returns-clause-input
returns-clause-input c = ap (λ (x : Top). x.input) c.as_keys.ensures ∙ c.in_ok-parts.ensures.input
