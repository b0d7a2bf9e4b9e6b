use Rattle.std.proofs.Common.{◌≡◌, ◌++◌}
use Rattle.arrow_buffers.specs.Rows.{part}
use Rattle.array_filter.proofs.bits.push_bits.Given as goal

abbrev pub invariant-loop-i : goal.invariant-loop-i
invariant-loop-i l = l.taken.items ≡ l.initial.taken.items ++ part l.from l.i l.bits
