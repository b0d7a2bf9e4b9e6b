use Rattle.std.proofs.Common.{ℕ, ◌-◌, ◌<◌, map}
use Rattle.std.specs.Str.{IsCharBoundary}
use Rattle.arrow_buffers.specs.Variable.{place_at}
use Rattle.arrow_buffers.proofs.texts.are_one_text.Given as goal

abbrev pub invariant-loop-i : goal.invariant-loop-i
invariant-loop-i g l = (k : ℕ) → k < l.i → IsCharBoundary l.used (place_at (map g.O.Offset.number l.offsets) k - l.first)
