use Rattle.std.proofs.Common.{refl, sym, subst, ◌∙◌}
use Rattle.ipc_view.specs.Built.{batch_of, place_of}
use Rattle.ipc_view.specs.Unions.{IsUnionTop}
use Rattle.ipc_view.proofs.Answered.{err_from}
use Rattle.ipc_view.proofs.UnionTops.{nulls_refused, places_refused, ranges_fine, ranges_shown, types_refused}
use Rattle.ipc_view.proofs.batch.BatchTables.union_ranges.Goals as goal

pub returns-then-counts_union_nulls-clause-gives : goal.returns-then-counts_union_nulls-clause-gives
returns-then-counts_union_nulls-clause-gives c = record {
  ok = tt;
  err = nulls_refused (batch_of c.args.self.now) c.args.mode (place_of c.args.place) c.args.rows c.types_place-number.result c.args.node c.requires.node c.types_place-number.ensures.number (sym c.counts_union_nulls.ensures ∙ c.if-counts_union_nulls.true);
}

pub returns-in_err-types-clause-gives : goal.returns-in_err-types-clause-gives
returns-in_err-types-clause-gives c = err_from c.from_residual.result c.in_err-types.field-0.0 _ _ c.from_residual.ensures.0 c.from_residual.ensures.1
    (types_refused (batch_of c.args.self.now) c.args.mode (place_of c.args.place) c.args.rows c.types_place-number.result c.in_err-types.field-0.0 c.types_place-number.ensures.number c.in_err-types.ensures.gives.err)

pub returns-in_err-places-clause-gives : goal.returns-in_err-places-clause-gives
returns-in_err-places-clause-gives c = err_from c.from_residual-in_err-places.result c.in_err-places.field-0.0 _ _ c.from_residual-in_err-places.ensures.0 c.from_residual-in_err-places.ensures.1
    (places_refused (batch_of c.args.self.now) c.args.mode (place_of c.args.place) c.args.rows c.types_place-number.result c.in_err-places.field-0.0 c.types_place-number.ensures.number c.in_err-places.ensures.gives.err)

pub returns-clause-gives : goal.returns-clause-gives
returns-clause-gives c =
    let m = batch_of c.args.self.now in
    let p = place_of c.args.place in
    let number = c.types_place-number in
    let f = c.in_ok-types.ensures.gives.ok in
    let s = c.in_ok-places.ensures.gives.ok in
    let ids = c.args.ids.items in
    record {
      ok = (
        ranges_fine m c.args.mode p c.args.rows number.result c.args.node c.requires.node number.ensures.number (sym c.counts_union_nulls.ensures ∙ c.if-counts_union_nulls.false) f.0 s.0,
        subst (IsUnionTop m c.args.mode ids p c.args.rows) (sym c.tagged_parts.ensures)
            (ranges_shown m c.args.mode ids p c.args.rows c.args.self.now.input.now c.args.self.now.is_big_endian number.result c.in_ok-types.types c.in_ok-places.places refl number.ensures.number f.1.0 f.1.1 f.1.2 s.1),
      );
      err = tt;
    }
