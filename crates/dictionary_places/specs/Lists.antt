-- A list, the places of its rows, and where what was taken last stands in it.
use Rattle.std.specs.Prelude.{◌≡◌, ℕ, ◌+◌, ◌≤◌, List, drop, length, take}
use Rattle.arrow_arrays.specs.Parts.{Forest}
use Rattle.arrow_arrays.specs.PartsOf.{forest_of}
use Rattle.arrow_spec.specs.Cells.{Cell}
use Rattle.laws_unify.specs.Lists.{fit}
use Rattle.laws_unify.specs.Over.{is_same_cell, values_of}
use Rattle.dictionary_places.specs.Places.{AreRows}
use Rattle.dictionary_places.specs.declared.list.DictionaryList.{DictionaryList}

-- the parts of a list
abbrev pub parts_in : DictionaryList → Forest
parts_in l = forest_of l.parts.items

-- so many values from a place on fit there
pub record LastStands (u : List Cell) (at rows : ℕ) : Type 0 where
  pub within : at + rows ≤ length u
  pub fits : fit is_same_cell u (take rows (drop at u)) ≡ at

pub record IsKept (l : DictionaryList) : Type 0 where
  pub rows : AreRows l.parts.items l.places.items
  pub last : LastStands (values_of (parts_in l)) l.last l.last_rows
