use Rattle.std.proofs.Common.{arith}
use Rattle.arrow_spec.specs.Arrays.{bit}
use Rattle.arrow_buffers.proofs.Unset.{unset_few, unset_more, unset_same}
use Rattle.arrow_buffers.proofs.bitmap.unset_bit_by_bit.Goals as goal
use Rattle.arrow_buffers.proofs.bitmap.unset_bit_by_bit.Goals.{then-not-is_set, else-not-is_set}

pub overflow_add-unset : goal.overflow_add-unset
overflow_add-unset c = omega (arith, c.loop-i.invariant, unset_few (bit c.args.bytes.now) c.args.from c.loop-i.i, c.loop-i-test.true, c.requires.small)

pub loop-i-preserved : goal.loop-i-preserved
loop-i-preserved c =
    elim c.if-not-is_set.branch [
      | then-not-is_set w ↦ omega (arith, c.loop-i.invariant, w.unset-is, unset_more (bit c.args.bytes.now) c.args.from c.loop-i.i w.if-not-is_set.ensures)
      | else-not-is_set w ↦ omega (arith, c.loop-i.invariant, w.unset-is, unset_same (bit c.args.bytes.now) c.args.from c.loop-i.i w.if-not-is_set.ensures)
    ]
