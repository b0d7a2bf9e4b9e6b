use Rattle.std.proofs.Common.{ℕ, ◌+◌, ◌-◌, ◌<◌, ◌≤◌}
use Rattle.dictionary_places.specs.Places.{values_in}
use Rattle.dictionary_places.specs.Shifts.{Survives}
use Rattle.dictionary_places.proofs.search.advance.Given as goal

abbrev pub invariant-loop-at : goal.invariant-loop-at
invariant-loop-at l = record {
  later : l.from ≤ l.at;
  within : l.at ≤ l.i + 1;
  survives : Survives (values_in l.u) (values_in l.v) l.at l.i;
  none : (e : ℕ) → l.from ≤ e → e < l.at → Survives (values_in l.u) (values_in l.v) e (l.i + 1) → ⊥;
}

abbrev pub decreases-loop-at : goal.decreases-loop-at
decreases-loop-at l = l.i + 1 - l.at
