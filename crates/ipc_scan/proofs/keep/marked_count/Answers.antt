use Rattle.std.proofs.Common.{arith, take, length-take}
use Rattle.ipc_scan.proofs.Marks.{count_clear, count_set, count_within}
use Rattle.ipc_scan.proofs.keep.marked_count.Goals.{then-marks-i, else-marks-i}
use Rattle.ipc_scan.proofs.keep.marked_count.Goals as goal

pub overflow_add-count : goal.overflow_add-count
overflow_add-count c =
    let within = count_within (take c.loop-i.i c.args.marks.now) in
    let few = length-take c.loop-i.i c.args.marks.now in
    omega (arith, within, few, c.loop-i.invariant)

pub loop-i-preserved : goal.loop-i-preserved
loop-i-preserved c =
    let marks = c.args.marks.now in
    elim c.if-marks-i.branch [
      | then-marks-i w ↦ count_set marks c.loop-i.i c.loop-i.count c.if-marks-i.count w.if-marks-i.true c.loop-i.invariant w.count-is
      | else-marks-i w ↦ count_clear marks c.loop-i.i c.loop-i.count c.if-marks-i.count w.if-marks-i.false c.loop-i.invariant w.count-is
    ]
