use Rattle.std.proofs.Common.{◌≡◌, ℕ, ◌<◌, ◌≤◌, length}
use Rattle.dictionary_places.specs.Places.{values_in}
use Rattle.dictionary_places.specs.Shifts.{AreShifts, Survives}
use Rattle.dictionary_places.proofs.search.shifts_of.Given as goal

abbrev pub invariant-loop-i : goal.invariant-loop-i
invariant-loop-i l = record {
  count : length l.shifts.items ≡ l.i;
  shifts : AreShifts (values_in l.v) l.shifts.items;
  some : 1 ≤ l.shift;
  within : l.shift ≤ l.i;
  survives : Survives (values_in l.v) (values_in l.v) l.shift l.i;
  none : (e : ℕ) → 1 ≤ e → e < l.shift → Survives (values_in l.v) (values_in l.v) e l.i → ⊥;
}
