use Rattle.std.proofs.Common.{◌≡◌, ◌-◌}
use Rattle.arrow_spec.specs.Readings.{each}
use Rattle.ipc_schema.specs.Views.{node_of, nodes_in}
use Rattle.ipc_schema.proofs.Items.{with_front}
use Rattle.ipc_schema.proofs.header.read_nodes.Given as goal

abbrev pub invariant-loop-i : goal.invariant-loop-i
invariant-loop-i l = with_front l.nodes.items (each (node_of l.vector) l.i (l.vector.vector.count - l.i)) ≡ nodes_in l.vector
