-- Fields and columns by their names.
use Rattle.std.specs.Prelude.{ℕ, List, Bool, false, Option, Some, None, slice_get}
use Rattle.std.specs.List.{position_from}
use Rattle.std.specs.Str.{bytes_eq}
use Rattle.arrow_types.specs.Schemas.{Keyed}
use Rattle.arrow_arrays.specs.Parts.{Parts}
use Rattle.arrow_arrays.specs.Batches.{Batch}

-- there is such a field, and this is its name
abbrev pub is_named : List ℕ → Option Keyed → Bool
is_named name None = false
is_named name (Some field) = bytes_eq name field.0

-- the first place from one on at which a field of this name stands
abbrev pub place_from : List ℕ → ℕ → List Keyed → Option ℕ
place_from name = position_from (λ field. bytes_eq name field.0)

-- the first place at which a field of this name stands
abbrev pub place_of : List ℕ → List Keyed → Option ℕ
place_of name = place_from name 0

-- what stands at a place, where there is one
abbrev pub stands_at : {A : Type 0} → List A → Option ℕ → Option A
stands_at xs None = None
stands_at xs (Some i) = slice_get xs i

-- the column under the first field of this name
abbrev pub column_of : List ℕ → Batch → Option Parts
column_of name batch = stands_at batch.arrays (place_of name batch.schema)
