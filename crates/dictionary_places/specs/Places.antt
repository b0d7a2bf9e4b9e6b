-- The rows of several parts, one after another, each by its part and its row there.
use Rattle.std.specs.Prelude.{◌≡◌, ℕ, suc, ◌+◌, ◌<◌, List, [], ◌∷◌, ◌++◌, None, get_or}
use Rattle.arrow_spec.specs.Arrays.{from_on}
use Rattle.arrow_spec.specs.Cells.{Cell, null}
use Rattle.arrow_arrays.specs.Parts.{fault_each, rows_in}
use Rattle.arrow_arrays.specs.PartsOf.{forest_of, parts_of}
use Rattle.arrow_arrays.specs.declared.array.Array.{Array}
use Rattle.laws_unify.specs.Over.{values_of}
use Rattle.dictionary_places.specs.declared.rows.Place.{Place}
use Rattle.dictionary_places.specs.declared.rows.Rows.{Rows}

abbrev pub place : ℕ → ℕ → Place
place part row = record { part = part; row = row }

-- the rows of parts, the first of which has a number
abbrev pub places_from : ℕ → List Array → List Place
places_from i [] = []
places_from i (x ∷ xs) = from_on (place i) 0 (rows_in (parts_of x)) ++ places_from (suc i) xs

-- the places are the parts' rows
pub record AreRows (parts : List Array) (places : List Place) : Type 0 where
  pub are : places ≡ places_from 0 parts
  pub sound : fault_each (forest_of parts) ≡ None

abbrev pub HaveRows : Rows → Type 0
HaveRows r = AreRows r.parts.now r.places.now

-- the values of the parts
abbrev pub values_in : Rows → List Cell
values_in r = values_of (forest_of r.parts.now)

-- so many cells from two places on are the same one by one; and some differ
abbrev pub AreSame : List Cell → ℕ → List Cell → ℕ → ℕ → Type 0
AreSame u i v j n = (k : ℕ) → k < n → get_or u (i + k) null ≡ get_or v (j + k) null

abbrev pub SomeDiffers : List Cell → ℕ → List Cell → ℕ → ℕ → Type 0
SomeDiffers u i v j n = AreSame u i v j n → ⊥
