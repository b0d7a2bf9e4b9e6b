use Rattle.std.proofs.Common.{◌≤◌, get_or, arith}
use Rattle.std.proofs.Math.Nat.{mul-le-mul_left}
use Rattle.array_filter.proofs.RunLaws.{next_run, no_run, run_here}
use Rattle.array_filter.proofs.RunSteps.{sized_climb, sized_items_next, sized_next}
use Rattle.array_filter.proofs.trees.sized_items.Goals as goal

pub overflow_mul-size : goal.overflow_mul-size
overflow_mul-size c =
    let runs = c.args.runs.now in
    let k = c.loop-run.run-index in
    let r = get_or runs k no_run in
    let n = next_run runs r c.loop-run.invariant.sized.low k c.args.held c.loop-run.invariant.sized.left c.loop-run-test.true (run_here runs k no_run c.loop-run-test.true) in
    let low : r.from ≤ c.args.held = omega (arith, n.within) in
    omega (arith, mul-le-mul_left c.args.size low, c.requires.whole, c.ranges.items.fits)

pub overflow_mul-size-in-loop-run : goal.overflow_mul-size-in-loop-run
overflow_mul-size-in-loop-run c =
    let runs = c.args.runs.now in
    let k = c.loop-run.run-index in
    let r = get_or runs k no_run in
    let n = next_run runs r c.loop-run.invariant.sized.low k c.args.held c.loop-run.invariant.sized.left c.loop-run-test.true (run_here runs k no_run c.loop-run-test.true) in
    let low : r.count ≤ c.args.held = omega (arith, n.within) in
    omega (arith, mul-le-mul_left c.args.size low, c.requires.whole, c.ranges.items.fits)

pub loop-run-preserved : goal.loop-run-preserved
loop-run-preserved c =
    let runs = c.args.runs.now in
    let k = c.loop-run.run-index in
    let r = get_or runs k no_run in
    let here = run_here runs k no_run c.loop-run-test.true in
    record {
      items = sized_items_next runs c.loop-run.spans.items c.push.new.self.items k c.args.size r c.loop-run-test.true here c.in_ok-push.ensures.items c.loop-run.invariant.items;
      sized = sized_next runs c.loop-run.spans.items c.push.new.self.items k c.args.size c.args.held r c.loop-run.invariant.sized c.loop-run-test.true here c.in_ok-push.ensures.items;
    }

pub returns-clause-climb : goal.returns-clause-climb
returns-clause-climb c = sized_climb c.args.runs.now c.loop-run.spans.items c.loop-run.run-index c.args.size c.args.held c.args.items c.loop-run.invariant.sized c.requires.whole
