use Rattle.std.proofs.Common.{◌≡◌}
use Rattle.arrow_spec.specs.Arrays.{from_on}
use Rattle.arrow_arrays.specs.PieceViews.{share}
use Rattle.arrow_arrays.proofs.pieces.shares_of.Given as goal

abbrev pub invariant-loop-number : goal.invariant-loop-number
invariant-loop-number l = l.buffers.items ≡ from_on (share l.bytes) 0 l.number
