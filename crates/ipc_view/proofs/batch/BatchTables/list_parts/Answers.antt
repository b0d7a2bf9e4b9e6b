use Rattle.std.proofs.Common.{◌∙◌, ap, sym, refl, subst}
use Rattle.arrow_spec.specs.Readings.{Refuses}
use Rattle.view_types.specs.Tops.{top_in}
use Rattle.view_types.specs.Views.{offsets_by}
use Rattle.ipc_view.specs.Built.{batch_of, place_of}
use Rattle.ipc_view.specs.Lists.{list_top_faults}
use Rattle.ipc_view.proofs.Answered.{err_from}
use Rattle.ipc_view.proofs.Listed.{empty_list, listed, lists_refused, lists_told}
use Rattle.ipc_view.proofs.batch.BatchTables.list_parts.Goals as goal

pub returns-then-rows-eq0-clause-gives : goal.returns-then-rows-eq0-clause-gives
returns-then-rows-eq0-clause-gives c =
    let m = batch_of c.args.self.now in
    let p = place_of c.args.place in
    record {
      ok = (
        ap (list_top_faults m (offsets_by c.args.is_large) p) c.if-rows-eq0.true,
        empty_list m c.args.is_large p c.args.rows (top_in c.nested_parts-parts.result) c.args.self.now.input.now c.args.self.now.is_big_endian c.if-rows-eq0.true refl c.nested_parts-parts.ensures,
      );
      err = tt;
    }

pub returns-in_err-parts-clause-gives : goal.returns-in_err-parts-clause-gives
returns-in_err-parts-clause-gives c = err_from c.from_residual.result c.in_err-parts.field-0.0 _ _ c.from_residual.ensures.0 c.from_residual.ensures.1
    (lists_refused (batch_of c.args.self.now) c.args.is_large (place_of c.args.place) c.args.rows c.in_err-parts.field-0.0 c.if-rows-eq0.false c.in_err-parts.ensures.gives.err)

pub returns-in_err-check_lists-clause-gives : goal.returns-in_err-check_lists-clause-gives
returns-in_err-check_lists-clause-gives c =
    let s = c.in_ok-parts.ensures.gives.ok in
    let told = lists_told (batch_of c.args.self.now) c.args.is_large (place_of c.args.place) c.args.rows c.end_of.result (top_in c.in_ok-parts.parts) c.if-rows-eq0.false c.end_of.ensures s.1 s.0 in
    err_from c.from_residual-in_err-check_lists.result c.in_err-check_lists.field-0.0 _ _ c.from_residual-in_err-check_lists.ensures.0 c.from_residual-in_err-check_lists.ensures.1
    (subst (λ es. Refuses c.in_err-check_lists.field-0.0 es) (sym told) c.in_err-check_lists.ensures.gives.err)

pub returns-clause-gives : goal.returns-clause-gives
returns-clause-gives c =
    let s = c.in_ok-parts.ensures.gives.ok in
    let told = lists_told (batch_of c.args.self.now) c.args.is_large (place_of c.args.place) c.args.rows c.end_of.result (top_in c.in_ok-parts.parts) c.if-rows-eq0.false c.end_of.ensures s.1 s.0 in
    let g = c.in_ok-check_lists.ensures.gives.ok in
    record { ok = (told ∙ g.0, listed (batch_of c.args.self.now) c.args.is_large (place_of c.args.place) c.args.rows c.end_of.result c.last_offset-last.result (top_in c.in_ok-parts.parts) c.if-rows-eq0.false s.1 g.1 c.last_offset-last.ensures); err = tt }
