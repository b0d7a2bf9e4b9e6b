use Rattle.std.proofs.Common.{◌≡◌, ◌+◌, drop, ap, ◌∙◌, sym, arith}
use Rattle.arrow_spec.specs.Layout.{Slots, slot_count}
use Rattle.arrow_flat.specs.Nodes.{slot_of, slots_of, in_front}
use Rattle.arrow_flat.proofs.Steps.{next_slot, no_slot}
use Rattle.arrow_flat.proofs.Counts.{absent_slot, present_slot}
use Rattle.arrow_flat.proofs.measure.slot_count.Goals as goal
use Rattle.arrow_flat.proofs.measure.slot_count.Goals.{then-not-is_absent, else-not-is_absent}

pub loop-i-preserved : goal.loop-i-preserved
loop-i-preserved c =
    let l = c.loop-i in
    let v = slot_of c.index-slots-i.result in
    let t : Slots = slots_of (drop l.i c.args.slots.now) in
    let s : Slots = slots_of (drop (l.i + 1) c.args.slots.now) in
    let step : t ≡ in_front v s = next_slot c.args.slots.now l.i c.index-slots-i.result c.index-slots-i.is c.loop-i-test.true in
    elim c.if-not-is_absent.branch [
      | then-not-is_absent w ↦
          record {
            counted = rw w.count-is (present_slot v s t l.count l.i _ step (sym c.is_absent.ensures ∙ w.if-not-is_absent.true) l.invariant.counted);
            within = omega (arith, w.count-is);
          }
      | else-not-is_absent w ↦
          record {
            counted = rw w.count-is (absent_slot v s t l.count l.i _ step (sym c.is_absent.ensures ∙ w.if-not-is_absent.false) l.invariant.counted);
            within = omega (arith, w.count-is);
          }
    ]

pub returns-clause-value : goal.returns-clause-value
returns-clause-value c =
    let l = c.loop-i in
    let rest : slot_count (slots_of (drop l.i c.args.slots.now)) ≡ 0 = ap slot_count (no_slot c.args.slots.now l.i c.loop-i-test.false) in
    l.invariant.counted.none_left rest
