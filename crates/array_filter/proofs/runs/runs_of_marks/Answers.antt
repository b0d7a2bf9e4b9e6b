use Rattle.std.proofs.Common.{◌+◌, length, refl, subst, sym, arith}
use Rattle.array_filter.specs.Rows.{marked_from}
use Rattle.array_filter.specs.Runs.{Climb}
use Rattle.array_filter.proofs.MarkedRuns.{one_run}
use Rattle.array_filter.proofs.RunLaws.{climb_higher, climb_more}
use Rattle.array_filter.proofs.runs.runs_of_marks.Goals as goal

pub loop-next-preserved : goal.loop-next-preserved
loop-next-preserved c =
    let marks = c.args.marks.now in
    let runs = c.loop-next.runs.items in
    let next = c.in-Some.next in
    let low = c.loop-next.low in
    record {
      rows = one_run marks runs c.push.new.self.items next (marked_from 0 marks) low c.in_ok-push.ensures.items c.loop-next.invariant.rows c.in-Some.ensures.rows;
      climb = subst (λ qs. Climb 0 qs (next.from + next.count)) (sym c.in_ok-push.ensures.items) (climb_more 0 runs next low (next.from + next.count) c.loop-next.invariant.climb c.in-Some.ensures.above (omega arith));
      within = c.in-Some.ensures.within;
    }

pub returns-clause-climb : goal.returns-clause-climb
returns-clause-climb c = climb_higher 0 c.loop-next.runs.items c.loop-next.low (length c.args.marks.now) c.loop-next.invariant.climb c.loop-next.invariant.within
