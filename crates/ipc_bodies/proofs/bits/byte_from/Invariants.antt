use Rattle.std.proofs.Common.{◌≡◌, ◌<◌, ◌^◌, drop}
use Rattle.arrow_buffers.specs.Rows.{part}
use Rattle.ipc_bodies.specs.Pieces.{byte_by}
use Rattle.ipc_bodies.proofs.bits.byte_from.Given as goal

abbrev pub invariant-loop-i : goal.invariant-loop-i
invariant-loop-i l = record {
  made : byte_by l.weight l.byte (drop l.i (part l.first l.count l.bits)) ≡ byte_by 1 0 (part l.first l.count l.bits);
  below : l.byte < l.weight;
  power : l.weight ≡ 2 ^ l.i;
}
