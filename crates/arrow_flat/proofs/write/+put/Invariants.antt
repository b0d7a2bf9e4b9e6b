use Rattle.std.proofs.Common.{◌≡◌, ◌+◌, ◌*◌, ◌≤◌, ◌++◌, length, drop}
use Rattle.arrow_spec.specs.Layout.{inline_end, inline_values, offsets, laid_children, laid_nodes, end_of_children, end_of_nodes}
use Rattle.arrow_flat.specs.Nodes.{slots_of, nodes_of, ChildrenKeepSlotLimit, NodesKeepSlotLimit, SlotNumbersFit, NodeNumbersFit}
use Rattle.arrow_flat.proofs.Rooms.{SlotsLeft, NodesLeft}
use Rattle.arrow_flat.proofs.write.+put.Given as goal

abbrev pub invariant-put_slots-loop-slot : goal.invariant-put_slots-loop-slot
invariant-put_slots-loop-slot l =
    let whole = slots_of l.slots in
    let rest = slots_of (drop l.slot-index l.slots) in
    let start = length l.fn.out.items in
    let stop = inline_end whole start in
    record {
      left : SlotsLeft rest l.out.items l.at stop (l.fn.out.items ++ (inline_values whole start stop ++ laid_children whole stop));
      ends : end_of_children rest (length l.out.items) ≡ end_of_children whole stop;
      slot_limit : ChildrenKeepSlotLimit rest;
      fits : SlotNumbersFit rest → SlotNumbersFit whole;
      inside : stop ≤ length l.out.items;
    }

abbrev pub invariant-put_nodes-loop-node : goal.invariant-put_nodes-loop-node
invariant-put_nodes-loop-node l =
    let whole = nodes_of l.nodes in
    let rest = nodes_of (drop l.node-index l.nodes) in
    let start = length l.fn.out.items in
    let stop = start + 4 * length l.nodes in
    record {
      left : NodesLeft rest l.out.items l.at stop (l.fn.out.items ++ (offsets whole start stop ++ laid_nodes whole stop));
      ends : end_of_nodes rest (length l.out.items) ≡ end_of_nodes whole stop;
      slot_limit : NodesKeepSlotLimit rest;
      fits : NodeNumbersFit rest → NodeNumbersFit whole;
      inside : stop ≤ length l.out.items;
      place : l.at ≡ start + 4 * l.node-index;
    }
