use Rattle.std.proofs.Common.{◌≡◌, ◌<◌, ℕ, map, slice_get, take}
use Rattle.same_fields.specs.Bare.{AreOfOneKind, bare_entry}
use Rattle.same_fields.proofs.bare.have_same_fields.Given as goal

abbrev pub invariant-loop-i : goal.invariant-loop-i
invariant-loop-i l = (take l.i (map bare_entry l.a) ≡ take l.i (map bare_entry l.b)) × ((k : ℕ) → k < l.i → AreOfOneKind (slice_get l.a k) (slice_get l.b k))
