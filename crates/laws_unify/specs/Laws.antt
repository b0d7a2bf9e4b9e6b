-- What holds of such lists, and of arrays over them. Each statement is the contract of a public function without a body (src/lib.rt).
use Rattle.std.specs.Prelude.{◌≡◌, ℕ, ◌<◌, ◌≤◌, List, ◌++◌, drop, length, Bool, true, false, None}
use Rattle.std.specs.List.{AllByRecursion}
use Rattle.arrow_spec.specs.Cells.{Cell}
use Rattle.arrow_arrays.specs.Parts.{Forest, Parts, cells_in, fault_each, kind_in, rows_in}
use Rattle.laws_unify.specs.Lists.{IsTest, StandsAt, agree, fit, with_all, with_values}
use Rattle.laws_unify.specs.Over.{Covers, Lists, is_same_cell, over, values_of}
use Rattle.laws_unify.specs.United.{with_parts}

-- The place is one of the list's or its end; there the two agree, and nowhere before.
pub record IsLeastFit {A : Type 0} (same : A → A → Bool) (u v : List A) : Type 0 where
  pub within : fit same u v ≤ length u
  pub agrees : agree same (drop (fit same u v) u) v ≡ true
  pub least : (i : ℕ) → i < fit same u v → agree same (drop i u) v ≡ false

abbrev pub FitIsLeast : Type 0
FitIsLeast = (same : Cell → Cell → Bool) (u v : List Cell) → IsLeastFit same u v

-- Values that were taken stand in the list, at the same place whatever is appended later.
abbrev pub FitStays : Type 0
FitStays = (same : Cell → Cell → Bool) (u v more : List Cell) → IsTest same
    → (fit same (with_values same u v ++ more) v ≡ fit same u v) × StandsAt same (with_values same u v ++ more) v

-- So they add nothing when they come again.
abbrev pub NothingIsAddedTwice : Type 0
NothingIsAddedTwice = (same : Cell → Cell → Bool) (u v more : List Cell) → IsTest same
    → with_values same (with_values same u v ++ more) v ≡ with_values same u v ++ more

-- Each of several stands in the list of all.
abbrev pub EachIsFound : Type 0
EachIsFound = (same : Cell → Cell → Bool) (u : List Cell) (vs : List (List Cell)) → IsTest same
    → AllByRecursion (λ v. StandsAt same (with_all same u vs) v) vs

-- Values that begin with those that a list held at their place, and agree with the list from there on, fit there.
abbrev pub GoesOnWhereItStood : Type 0
GoesOnWhereItStood = (same : Cell → Cell → Bool) (u w more v : List Cell) → IsTest same → drop (fit same u w) u ≡ w ++ more → length w ≤ length v
    → agree same (drop (fit same u w) u) v ≡ true → fit same u v ≡ fit same u w

-- What is appended part by part is what is appended.
abbrev pub PartsAreTheList : Type 0
PartsAreTheList = (list parts : Forest) → fault_each parts ≡ None → values_of (with_parts list parts) ≡ with_values is_same_cell (values_of list) (values_of parts)

-- An array over lists in which its dictionaries stand holds the same cells, and is of the same kind and height.
abbrev pub OverKeepsCells : Type 0
OverKeepsCells = (us : Lists) (p : Parts) (id : ℕ) → Covers us p id → cells_in (over us p id) ≡ cells_in p

abbrev pub OverKeepsKindsAndRows : Type 0
OverKeepsKindsAndRows = (us : Lists) (p : Parts) (id : ℕ) → (kind_in (over us p id) ≡ kind_in p) × (rows_in (over us p id) ≡ rows_in p)
