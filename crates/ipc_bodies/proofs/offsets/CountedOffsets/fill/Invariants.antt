use Rattle.std.proofs.Common.{◌≡◌, ◌*◌, take}
use Rattle.arrow_buffers.specs.Rows.{part}
use Rattle.ipc_bodies.proofs.offsets.CountedOffsets.fill.Given as goal

abbrev pub invariant-loop-i : goal.invariant-loop-i
invariant-loop-i l = take (l.width * l.i) l.out ≡ part l.at (l.width * l.i) l.self
