use Rattle.std.proofs.Common.{◌≡◌, ◌+◌, ◌-◌, ◌*◌, ◌++◌, ℕ, length, drop, arith, refl, sym, ap, subst, ◌∙◌, rules}
use Rattle.arrow_spec.specs.Layout.{Slots, Nodes, no_more, none, also, zeros, inline_end, inline_values, offsets, laid_children, laid_nodes, node_count, end_of_children, end_of_nodes}
use Rattle.arrow_spec.proofs.Ends.{inline_above, end_above}
use Rattle.arrow_flat.specs.declared.node.Node.{the_lemmas}
use Rattle.arrow_flat.specs.Nodes.{SlotValue, in_front, slot_of, slots_of, node_of, nodes_of}
use Rattle.arrow_flat.proofs.Steps.{next_slot, no_slot, next_node, no_node, count_of_nodes}
use Rattle.arrow_flat.proofs.Fronts.{first_slot, end_behind}
use Rattle.arrow_flat.proofs.Nexts.{next_child, slot_fits, next_table, node_fits}
use Rattle.arrow_flat.proofs.Rooms.{SlotsLeft, slots_begin, slots_done, slot_filled, NodesLeft, nodes_begin, nodes_done, node_filled}
use Rattle.arrow_flat.proofs.write.+put.Goals as goal

pub put_slots-loop-slot-init : goal.put_slots-loop-slot-init
put_slots-loop-slot-init t c =
    let s : Slots = slots_of c.args.slots.now in
    let old = c.args.out.now.items in
    let out = c.put_gap.new.out.items in
    let from = length old in
    let to = inline_end s from in
    let start : c.len-at.result ≡ from = omega arith in
    let stop : c.inline_end-end.result ≡ to = c.inline_end-end.ensures ∙ ap (λ q. inline_end s q) start in
    let bytes : out ≡ old ++ zeros (to - from) = c.in_ok-put_gap.ensures.ok ∙ ap (λ e. old ++ zeros (e - from)) stop in
    let len : length out ≡ to = c.in_ok-put_gap.ensures.len (omega (arith, stop, inline_above s from)) ∙ stop in
    record {
      left = subst (λ (q : ℕ). SlotsLeft s out q to (old ++ (inline_values s from to ++ laid_children s to))) (sym start) (slots_begin s old out from to bytes refl refl len);
      ends = ap (λ k. end_of_children s k) len;
      slot_limit = c.requires.slot_limit;
      fits = λ h. h;
      inside = omega (arith, len);
    }

pub put_slots-put_slot-requires : goal.put_slots-put_slot-requires
put_slots-put_slot-requires t c =
    let l = c.loop-slot in
    let v : SlotValue = slot_of c.slot-item.result in
    let s : Slots = slots_of (drop (l.slot-index + 1) c.args.slots.now) in
    let u : Slots = slots_of (drop l.slot-index c.args.slots.now) in
    let step : u ≡ in_front v s = next_slot c.args.slots.now l.slot-index c.slot-item.result c.slot-item.is c.loop-slot-test.true in
    let first = first_slot v s u l.at _ step l.invariant.left.end in
    let next = next_child v s u (length l.out.items) _ step l.invariant.slot_limit l.invariant.ends in
    (search (rules, the_lemmas), (omega (arith, first.next, l.invariant.inside), (next.slot_limit, omega (arith, next.within, c.requires.short))))

pub put_slots-value_next-at-requires : goal.put_slots-value_next-at-requires
put_slots-value_next-at-requires t c =
    let l = c.loop-slot in
    let v : SlotValue = slot_of c.slot-item.result in
    let s : Slots = slots_of (drop (l.slot-index + 1) c.args.slots.now) in
    let u : Slots = slots_of (drop l.slot-index c.args.slots.now) in
    let step : u ≡ in_front v s = next_slot c.args.slots.now l.slot-index c.slot-item.result c.slot-item.is c.loop-slot-test.true in
    let first = first_slot v s u l.at _ step l.invariant.left.end in
    let next = next_child v s u (length l.out.items) _ step l.invariant.slot_limit l.invariant.ends in
    omega (arith, first.next, l.invariant.inside, end_behind v (length l.out.items), next.within, c.requires.short)

pub put_slots-loop-slot-preserved : goal.put_slots-loop-slot-preserved
put_slots-loop-slot-preserved t c =
    let l = c.loop-slot in
    let v : SlotValue = slot_of c.slot-item.result in
    let s : Slots = slots_of (drop (l.slot-index + 1) c.args.slots.now) in
    let u : Slots = slots_of (drop l.slot-index c.args.slots.now) in
    let step : u ≡ in_front v s = next_slot c.args.slots.now l.slot-index c.slot-item.result c.slot-item.is c.loop-slot-test.true in
    let next = next_child v s u (length l.out.items) _ step l.invariant.slot_limit l.invariant.ends in
    let put = c.in_ok-put_slot.ensures in
    record {
      left = slot_filled v s u l.out.items c.put_slot.new.out.items l.at c.value_next-at.result _ _ step put.ok put.len c.value_next-at.ensures l.invariant.left;
      ends = ap (λ k. end_of_children s k) put.len ∙ next.rest;
      slot_limit = next.others;
      fits = λ rest. l.invariant.fits (slot_fits v s u step put.fits rest);
      inside = omega (arith, put.len, end_behind v (length l.out.items), l.invariant.inside);
    }

pub put_slots-returns-clause-ok : goal.put_slots-returns-clause-ok
put_slots-returns-clause-ok t c =
    let l = c.loop-slot in
    let done : slots_of (drop l.slot-index c.args.slots.now) ≡ no_more = no_slot c.args.slots.now l.slot-index c.loop-slot-test.false in
    slots_done _ l.out.items l.at _ _ done l.invariant.left

pub put_nodes-put_child-requires : goal.put_nodes-put_child-requires
put_nodes-put_child-requires t c =
    let l = c.loop-node in
    let n = node_of c.node-item.result in
    let ns : Nodes = nodes_of (drop (l.node-index + 1) c.args.nodes.now) in
    let ms : Nodes = nodes_of (drop l.node-index c.args.nodes.now) in
    let step : ms ≡ also n ns = next_node c.args.nodes.now l.node-index c.node-item.result c.node-item.is c.loop-node-test.true in
    let next = next_table n ns ms (length l.out.items) _ step l.invariant.slot_limit l.invariant.ends in
    (search (rules, the_lemmas), (omega (arith, l.invariant.place, l.invariant.inside, c.loop-node-test.true), (next.slot_limit, omega (arith, next.within, c.requires.short))))

pub put_nodes-loop-node-init : goal.put_nodes-loop-node-init
put_nodes-loop-node-init t c =
    let ns : Nodes = nodes_of c.args.nodes.now in
    let old = c.args.out.now.items in
    let out = c.put_gap.new.out.items in
    let from = length old in
    let to = from + 4 * length c.args.nodes.now in
    let start : c.len-at.result ≡ from = omega arith in
    let stop : c.len-at.result + 4 * length c.args.nodes.now ≡ to = omega arith in
    let bytes : out ≡ old ++ zeros (to - from) = c.in_ok-put_gap.ensures.ok ∙ ap (λ e. old ++ zeros (e - from)) stop in
    let len : length out ≡ to = c.in_ok-put_gap.ensures.len (omega (arith, stop)) ∙ stop in
    let count : from + 4 * node_count ns ≡ to = omega (arith, count_of_nodes c.args.nodes.now) in
    record {
      left = subst (λ (q : ℕ). NodesLeft ns out q to (old ++ (offsets ns from to ++ laid_nodes ns to))) (sym start) (nodes_begin ns old out from to bytes refl count len);
      ends = ap (λ k. end_of_nodes ns k) len;
      slot_limit = c.requires.slot_limit;
      fits = λ h. h;
      inside = omega (arith, len);
      place = omega (arith, start);
    }

pub put_nodes-loop-node-preserved : goal.put_nodes-loop-node-preserved
put_nodes-loop-node-preserved t c =
    let l = c.loop-node in
    let n = node_of c.node-item.result in
    let ns : Nodes = nodes_of (drop (l.node-index + 1) c.args.nodes.now) in
    let ms : Nodes = nodes_of (drop l.node-index c.args.nodes.now) in
    let step : ms ≡ also n ns = next_node c.args.nodes.now l.node-index c.node-item.result c.node-item.is c.loop-node-test.true in
    let next = next_table n ns ms (length l.out.items) _ step l.invariant.slot_limit l.invariant.ends in
    let put = c.in_ok-put_child.ensures in
    record {
      left = node_filled n ns ms l.out.items c.put_child.new.out.items l.at _ _ step put.ok put.len l.invariant.left;
      ends = ap (λ k. end_of_nodes ns k) put.len ∙ next.rest;
      slot_limit = next.others;
      fits = λ rest. l.invariant.fits (node_fits n ns ms step put.fits rest);
      inside = omega (arith, put.len, end_above n (length l.out.items), l.invariant.inside);
      place = omega (arith, l.invariant.place);
    }

pub put_nodes-returns-clause-ok : goal.put_nodes-returns-clause-ok
put_nodes-returns-clause-ok t c =
    let l = c.loop-node in
    let done : nodes_of (drop l.node-index c.args.nodes.now) ≡ none = no_node c.args.nodes.now l.node-index c.loop-node-test.false in
    nodes_done _ l.out.items l.at _ _ done l.invariant.left
