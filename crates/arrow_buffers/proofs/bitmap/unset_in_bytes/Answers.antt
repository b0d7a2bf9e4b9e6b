use Rattle.std.proofs.Common.{◌+◌, ◌*◌, arith, get_or}
use Rattle.std.proofs.lemmas.Nat.{ones-le}
use Rattle.arrow_spec.specs.Arrays.{bit}
use Rattle.arrow_buffers.proofs.Unset.{unset_few, unset_byte}
use Rattle.arrow_buffers.proofs.bitmap.unset_in_bytes.Goals as goal

pub overflow_add-unset-in-loop-i : goal.overflow_add-unset-in-loop-i
overflow_add-unset-in-loop-i c = omega (arith, c.loop-i.invariant, unset_few (bit c.args.bytes.now) (8 * c.args.from) (8 * c.loop-i.i), c.loop-i-test.true, c.requires.small)

pub loop-i-preserved : goal.loop-i-preserved
loop-i-preserved c =
    let byte = (c.type_inv.bytes (c.args.from + c.loop-i.i)).fits in
    omega (arith, c.loop-i.invariant, unset_byte c.args.bytes.now c.args.from c.loop-i.i byte, ones-le 8 (get_or c.args.bytes.now (c.args.from + c.loop-i.i) 0) byte)
