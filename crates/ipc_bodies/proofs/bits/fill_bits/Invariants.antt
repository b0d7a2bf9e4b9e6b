use Rattle.std.proofs.Common.{◌≡◌, take}
use Rattle.arrow_spec.specs.Framing.{packed}
use Rattle.arrow_buffers.specs.Rows.{part}
use Rattle.ipc_bodies.proofs.bits.fill_bits.Given as goal

abbrev pub invariant-loop-i : goal.invariant-loop-i
invariant-loop-i l = take l.i l.out ≡ part l.at l.i (packed l.bits)
