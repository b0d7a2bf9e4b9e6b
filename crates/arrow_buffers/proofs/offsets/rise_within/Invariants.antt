use Rattle.std.proofs.Common.{◌≡◌, drop, map}
use Rattle.arrow_buffers.specs.Variable.{rise_from, are_offsets}
use Rattle.arrow_buffers.proofs.offsets.rise_within.Given as goal

abbrev pub invariant-loop-i : goal.invariant-loop-i
invariant-loop-i g l =
    rise_from l.low (map g.O.Offset.number (drop l.i l.offsets)) l.limit ≡ are_offsets (map g.O.Offset.number l.offsets) l.limit
