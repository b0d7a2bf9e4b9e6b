use Rattle.std.proofs.Common.{◌+◌, drop, arith}
use Rattle.arrow_flat.specs.Nodes.{slot_of, slots_of}
use Rattle.arrow_flat.proofs.Steps.{next_slot}
use Rattle.arrow_flat.proofs.Cuts.{children_step}
use Rattle.arrow_flat.proofs.measure.+measure.Goals as goal

pub end_of_children-loop-slot-preserved : goal.end_of_children-loop-slot-preserved
end_of_children-loop-slot-preserved t c =
    let l = c.loop-slot in (
      children_step (slot_of c.slot-item.result) (slots_of (drop (l.slot-index + 1) c.args.slots.now)) (slots_of (drop l.slot-index c.args.slots.now)) l.cursor _ _
          (next_slot c.args.slots.now l.slot-index c.slot-item.result c.slot-item.is c.loop-slot-test.true) c.end_of_child-cursor.ensures l.invariant.0,
      omega (arith, c.end_of_child-cursor.ensures),
    )
