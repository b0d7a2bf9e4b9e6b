use Rattle.std.proofs.Common.{◌≡◌, ◌-◌, ◌++◌}
use Rattle.arrow_spec.specs.Framing.{packed}
use Rattle.arrow_buffers.specs.Rows.{part}
use Rattle.ipc_bodies.proofs.bits.append_bits_from.Given as goal

abbrev pub invariant-loop-i : goal.invariant-loop-i
invariant-loop-i l = l.out.items ≡ l.initial.out.items ++ part l.at (l.i - l.at) (packed l.bits)
