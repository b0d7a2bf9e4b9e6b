use Rattle.std.proofs.Common.{◌∙◌, sym, ap, ◌+◌, get_or, arith}
use Rattle.array_filter.proofs.RunLaws.{length-next, next_run, no_run, run_here}
use Rattle.array_filter.proofs.runs.row_count.Goals as goal

pub overflow_add-count : goal.overflow_add-count
overflow_add-count c =
    let runs = c.args.runs.now in
    let k = c.loop-run.run-index in
    let n = next_run runs (get_or runs k no_run) c.loop-run.invariant.counted.low k c.args.held c.loop-run.invariant.counted.left c.loop-run-test.true (run_here runs k no_run c.loop-run-test.true) in
    omega (arith, c.loop-run.invariant.counted.few, n.above, n.within, c.ranges.held.fits)

pub loop-run-preserved : goal.loop-run-preserved
loop-run-preserved c =
    let runs = c.args.runs.now in
    let k = c.loop-run.run-index in
    let r = get_or runs k no_run in
    let here = run_here runs k no_run c.loop-run-test.true in
    let n = next_run runs r c.loop-run.invariant.counted.low k c.args.held c.loop-run.invariant.counted.left c.loop-run-test.true here in
    record {
      rows = ap (λ m. m + r.count) c.loop-run.invariant.rows ∙ sym (length-next runs k r c.loop-run-test.true here);
      counted = record { low = r.from + r.count; left = n.left; few = omega (arith, c.loop-run.invariant.counted.few, n.above) };
    }
