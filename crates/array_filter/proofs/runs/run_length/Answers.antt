use Rattle.std.proofs.Common.{arith, drop}
use Rattle.array_filter.specs.Rows.{marked_from}
use Rattle.array_filter.proofs.MarkedRuns.{run_begun, run_longer}
use Rattle.array_filter.proofs.runs.run_length.Goals as goal

pub loop-count-init : goal.loop-count-init
loop-count-init c = run_begun c.args.marks.now c.args.from c.requires.below c.requires.marked

pub loop-count-preserved : goal.loop-count-preserved
loop-count-preserved c =
    let marks = c.args.marks.now in
    run_longer marks (marked_from c.args.from (drop c.args.from marks)) c.args.from c.loop-count.count c.loop-count.invariant (omega arith) c.if-not-marks-from.false
