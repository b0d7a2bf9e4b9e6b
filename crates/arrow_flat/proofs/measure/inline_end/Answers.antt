use Rattle.std.proofs.Common.{◌+◌, drop, arith}
use Rattle.arrow_flat.specs.Nodes.{slot_of, slots_of}
use Rattle.arrow_flat.proofs.Steps.{next_slot}
use Rattle.arrow_flat.proofs.Cuts.{inline_step}
use Rattle.arrow_flat.proofs.measure.inline_end.Goals as goal

pub loop-slot-preserved : goal.loop-slot-preserved
loop-slot-preserved c =
    let l = c.loop-slot in (
      inline_step (slot_of c.slot-item.result) (slots_of (drop (l.slot-index + 1) c.args.slots.now)) (slots_of (drop l.slot-index c.args.slots.now)) l.at _ _
          (next_slot c.args.slots.now l.slot-index c.slot-item.result c.slot-item.is c.loop-slot-test.true) c.next-at.ensures l.invariant.0,
      omega (arith, c.next-at.ensures),
    )
