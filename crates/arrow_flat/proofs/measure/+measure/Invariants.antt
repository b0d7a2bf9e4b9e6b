use Rattle.std.proofs.Common.{◌≡◌, ◌-◌, ◌^◌, ◌<◌, min, drop}
use Rattle.arrow_spec.specs.Layout.{end_of_children, end_of_nodes}
use Rattle.arrow_flat.specs.Nodes.{slots_of, nodes_of}
use Rattle.arrow_flat.proofs.measure.+measure.Given as goal

abbrev pub invariant-end_of_children-loop-slot : goal.invariant-end_of_children-loop-slot
invariant-end_of_children-loop-slot l =
    (min (end_of_children (slots_of (drop l.slot-index l.slots)) l.cursor) (2 ^ 128 - 1) ≡ min (end_of_children (slots_of l.slots) l.start) (2 ^ 128 - 1)) × (l.cursor < 2 ^ 128)

abbrev pub invariant-end_of_nodes-loop-node : goal.invariant-end_of_nodes-loop-node
invariant-end_of_nodes-loop-node l =
    (min (end_of_nodes (nodes_of (drop l.node-index l.nodes)) l.cursor) (2 ^ 128 - 1) ≡ min (end_of_nodes (nodes_of l.nodes) l.start) (2 ^ 128 - 1)) × (l.cursor < 2 ^ 128)
