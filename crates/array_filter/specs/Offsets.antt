-- The offsets of rows at some numbers, and the items between them. (Arrow Columnar Format, "Variable-size Binary Layout", "Variable-size List Layout".)
use Rattle.std.specs.Prelude.{ℕ, suc, ◌+◌, ◌-◌, ◌*◌, List, [], ◌∷◌, map, ℤ, pos}
use Rattle.std.specs.List.{flat_map}
use Rattle.arrow_spec.specs.Needed.{numbers_from}
use Rattle.arrow_buffers.specs.Variable.{place_at}

-- how many items a row has between its offsets
abbrev pub row_length : List ℤ → ℕ → ℕ
row_length offsets row = place_at offsets (suc row) - place_at offsets row

-- where rows of these lengths end that stand from a place on
abbrev pub ends_on : ℕ → List ℕ → List ℤ
ends_on at [] = []
ends_on at (n ∷ ns) = pos (at + n) ∷ ends_on (at + n) ns

-- their offsets: where the first begins, and where each ends
abbrev pub offsets_on : ℕ → List ℕ → List ℤ
offsets_on at ns = pos at ∷ ends_on at ns

-- the offsets of the rows, from 0 on
abbrev pub offsets_taken : List ℕ → List ℤ → List ℤ
offsets_taken rows offsets = offsets_on 0 (map (row_length offsets) rows)

-- the items that rows have, which stand from a place on, so many of them
abbrev pub items_of : (ℕ → ℕ) → (ℕ → ℕ) → List ℕ → List ℕ
items_of place count rows = flat_map (λ row. numbers_from (place row) (count row)) rows

-- the items between the offsets of the rows, and those of lists of one size
abbrev pub items_taken : List ℕ → List ℤ → List ℕ
items_taken rows offsets = items_of (place_at offsets) (row_length offsets) rows

abbrev pub sized_items_taken : List ℕ → ℕ → List ℕ
sized_items_taken rows size = items_of (λ row. size * row) (λ row. size) rows
