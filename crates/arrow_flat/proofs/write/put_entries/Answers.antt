use Rattle.std.proofs.Common.{◌≡◌, suc, ◌+◌, ◌-◌, drop, ap, ◌∙◌, arith}
use Rattle.arrow_spec.specs.Layout.{Slots, inline_end}
use Rattle.arrow_flat.specs.Nodes.{SlotValue, slot_of, slots_of, in_front}
use Rattle.arrow_flat.proofs.Steps.{next_slot}
use Rattle.arrow_flat.proofs.Fronts.{first_slot, entries_step, place_behind}
use Rattle.arrow_flat.proofs.write.put_entries.Goals as goal

pub put_entry-requires-clause-near : goal.put_entry-requires-clause-near
put_entry-requires-clause-near c =
    let l = c.loop-i in
    let first = first_slot _ _ _ l.at _ (next_slot c.args.slots.now l.i c.index-slots-i.result c.index-slots-i.is (omega arith)) l.invariant.end in
    omega (arith, first.next, c.requires.near)

pub put_entry-requires-clause-short : goal.put_entry-requires-clause-short
put_entry-requires-clause-short c =
    let l = c.loop-i in
    let first = first_slot _ _ _ l.at _ (next_slot c.args.slots.now l.i c.index-slots-i.result c.index-slots-i.is (omega arith)) l.invariant.end in
    omega (arith, first.next, c.requires.short)

pub value_next-at-requires : goal.value_next-at-requires
value_next-at-requires c =
    let l = c.loop-i in
    let first = first_slot _ _ _ l.at _ (next_slot c.args.slots.now l.i c.index-slots-i.result c.index-slots-i.is (omega arith)) l.invariant.end in
    omega (arith, first.next, c.requires.short)

pub loop-i-preserved : goal.loop-i-preserved
loop-i-preserved c =
    let l = c.loop-i in
    let v : SlotValue = slot_of c.index-slots-i.result in
    let s : Slots = slots_of (drop (l.i + 1) c.args.slots.now) in
    let t : Slots = slots_of (drop l.i c.args.slots.now) in
    let step : t ≡ in_front v s = next_slot c.args.slots.now l.i c.index-slots-i.result c.index-slots-i.is (omega arith) in
    let first = first_slot v s t l.at _ step l.invariant.end in
    let fewer : c.args.count - l.i ≡ suc (c.args.count - (l.i + 1)) = omega arith in
    record {
      bytes = entries_step v s t l.out.items c.put_entry.new.out.items _ c.args.place l.at c.value_next-at.result _ _ step fewer c.in_ok-put_entry.ensures.ok c.value_next-at.ensures l.invariant.bytes;
      end = ap (inline_end s) c.value_next-at.ensures ∙ first.rest;
      behind = omega (arith, place_behind v l.at, c.value_next-at.ensures);
      len = omega (arith, c.in_ok-put_entry.ensures.len);
    }
