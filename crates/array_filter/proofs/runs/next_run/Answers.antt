use Rattle.std.proofs.Common.{◌∙◌, arith}
use Rattle.array_filter.proofs.MarkedRuns.{clear_mark}
use Rattle.array_filter.proofs.runs.next_run.Goals as goal

pub loop-from-preserved : goal.loop-from-preserved
loop-from-preserved c = c.loop-from.invariant ∙ clear_mark c.args.marks.now c.loop-from.from (omega arith) c.if-marks-from.false
