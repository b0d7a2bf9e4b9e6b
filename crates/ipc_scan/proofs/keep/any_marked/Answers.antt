use Rattle.std.proofs.Common.{sym, arith}
use Rattle.ipc_scan.proofs.Marks.{any_at, any_next}
use Rattle.ipc_scan.proofs.keep.any_marked.Goals as goal

pub returns-then-marks-i : goal.returns-then-marks-i
returns-then-marks-i c = sym (any_at c.args.marks.now c.loop-i.i (omega arith) c.if-marks-i.true)

pub loop-i-preserved : goal.loop-i-preserved
loop-i-preserved c = any_next c.args.marks.now c.loop-i.i c.if-marks-i.false c.loop-i.invariant
