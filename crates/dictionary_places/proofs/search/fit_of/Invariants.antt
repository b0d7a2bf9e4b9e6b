use Rattle.std.proofs.Common.{ℕ, ◌+◌, ◌<◌, ◌≤◌, length}
use Rattle.dictionary_places.specs.Places.{values_in}
use Rattle.dictionary_places.specs.Shifts.{Survives}
use Rattle.dictionary_places.proofs.search.fit_of.Given as goal

abbrev pub invariant-loop-i : goal.invariant-loop-i
invariant-loop-i l = record {
  within : l.at ≤ l.i;
  short : l.i < l.at + length l.v.places.now;
  survives : Survives (values_in l.u) (values_in l.v) l.at l.i;
  none : (e : ℕ) → 0 ≤ e → e < l.at → Survives (values_in l.u) (values_in l.v) e l.i → ⊥;
}
