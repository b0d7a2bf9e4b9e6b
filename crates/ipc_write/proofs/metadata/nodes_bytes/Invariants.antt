use Rattle.std.proofs.Common.{◌≡◌, take, drop}
use Rattle.std.specs.List.{flat_map, AllByRecursion}
use Rattle.arrow_spec.specs.Bodies.{NodeFits}
use Rattle.arrow_spec.specs.Sent.{node_bytes}
use Rattle.ipc_write.proofs.metadata.nodes_bytes.Given as goal

abbrev pub invariant-loop-node : goal.invariant-loop-node
invariant-loop-node l = record {
  bytes : l.out.items ≡ flat_map node_bytes (take l.node-index l.nodes);
  fit : AllByRecursion NodeFits (drop l.node-index l.nodes) → AllByRecursion NodeFits l.nodes;
}
