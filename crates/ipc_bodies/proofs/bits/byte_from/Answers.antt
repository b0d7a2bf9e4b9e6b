use Rattle.ipc_bodies.proofs.Packed.{bit_more, bit_below, power_next}
use Rattle.ipc_bodies.proofs.bits.byte_from.Goals as goal

pub loop-i-preserved : goal.loop-i-preserved
loop-i-preserved c =
    let l = c.loop-i in
    record {
      made = bit_more c.args.bits.now c.args.first c.args.count l.i l.weight l.byte c.get.result _ c.with_bit-byte.result c.loop-i-test.true c.requires.within c.get.ensures c.with_bit-byte.ensures l.invariant.made;
      below = bit_below l.weight l.byte c.with_bit-byte.result c.get.result l.invariant.below c.with_bit-byte.ensures;
      power = power_next l.i l.weight l.invariant.power;
    }
