use Rattle.std.proofs.Common.{ap, sym, subst}
use Rattle.ipc_view.specs.Built.{batch_of, place_of}
use Rattle.ipc_view.specs.Unions.{IsUnionTop, union_top_faults}
use Rattle.ipc_view.proofs.UnionTops.{empty_union, top_answered}
use Rattle.ipc_view.proofs.batch.BatchTables.union_parts.Goals as goal

pub returns-then-rows-eq0-clause-gives : goal.returns-then-rows-eq0-clause-gives
returns-then-rows-eq0-clause-gives c =
    let m = batch_of c.args.self.now in
    let p = place_of c.args.place in
    record {
      ok = (
        ap (union_top_faults m c.args.mode p) c.if-rows-eq0.true,
        subst (IsUnionTop m c.args.mode c.args.ids.items p c.args.rows) (sym c.tagged_parts.ensures) (empty_union m c.args.mode c.args.ids.items p c.args.rows c.args.self.now.input.now c.args.self.now.is_big_endian c.if-rows-eq0.true),
      );
      err = tt;
    }

pub returns-clause-gives : goal.returns-clause-gives
returns-clause-gives c = top_answered (batch_of c.args.self.now) c.args.mode c.args.ids.items (place_of c.args.place) c.args.rows c.union_ranges.result c.if-rows-eq0.false c.union_ranges.ensures.gives
