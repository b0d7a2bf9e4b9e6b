use Rattle.std.proofs.Common.{◌≡◌, ◌+◌, ◌≤◌, ◌++◌, length, drop}
use Rattle.std.specs.Prelude.{sum}
use Rattle.arrow_arrays.specs.PieceViews.{views_from}
use Rattle.arrow_arrays.proofs.pieces.views_of.Given as goal

abbrev pub invariant-loop-length : goal.invariant-loop-length
invariant-loop-length l = record {
  inside : l.at + sum (drop l.length-index l.lengths) ≤ length l.bytes;
  so_far : l.views.items ++ views_from l.bytes l.at (drop l.length-index l.lengths) ≡ views_from l.bytes 0 l.lengths;
}
