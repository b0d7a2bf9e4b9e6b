use Rattle.std.proofs.Common.{◌≡◌, ◌*◌}
use Rattle.std.specs.Prelude.{not}
use Rattle.std.specs.List.{count_by}
use Rattle.arrow_buffers.specs.Bits.{bits_from}
use Rattle.arrow_buffers.proofs.bitmap.unset_in_bytes.Given as goal

abbrev pub invariant-loop-i : goal.invariant-loop-i
invariant-loop-i l = l.unset ≡ count_by not (bits_from l.bytes (8 * l.from) (8 * l.i))
