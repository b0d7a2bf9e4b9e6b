-- Rows of an array: a part of them, and which of them are null. (Arrow Columnar Format, "Validity bitmaps".)
use Rattle.std.specs.Prelude.{ℕ, List, [], ◌∷◌, Bool, true, false, Option, Some, None, length, nat_eq, nat_lt, not, ◌&&◌, take, drop, slice_get, slice_index_or, if◌then◌else◌}
use Rattle.std.specs.List.{count_by}
use Rattle.arrow_spec.specs.Cells.{Cell, null, bytes, text}

-- the rows from a place on, so many of them
abbrev pub part : {A : Type 0} → ℕ → ℕ → List A → List A
part offset rows xs = take rows (drop offset xs)

-- a validity, where there is one, has as many bits as there are rows
abbrev pub has_rows : Option (List Bool) → ℕ → Bool
has_rows None rows = true
has_rows (Some bits) rows = nat_eq (length bits) rows

-- a row is not null: every row, where there is no validity
abbrev pub is_valid : Option (List Bool) → ℕ → Bool
is_valid None row = true
is_valid (Some bits) row = slice_index_or bits row true

-- there is such a row, and it is not null
abbrev pub holds_row : Option (List Bool) → ℕ → ℕ → Bool
holds_row validity rows row = nat_lt row rows && is_valid validity row

-- there is such a row, and it is null
abbrev pub lacks_row : Option (List Bool) → ℕ → ℕ → Bool
lacks_row validity rows row = nat_lt row rows && not (is_valid validity row)

-- what a row holds, where there is such a row and it is not null
abbrev pub row_of : {A : Type 0} → Option (List Bool) → List A → ℕ → Option A
row_of validity items row = if holds_row validity (length items) row then slice_get items row else None

-- how many rows are null
abbrev pub null_rows : Option (List Bool) → ℕ
null_rows None = 0
null_rows (Some bits) = count_by not bits

-- bytes as a cell: a text, or a byte string
abbrev pub bytes_cell : Bool → List ℕ → Cell
bytes_cell true = text
bytes_cell false = bytes

-- cells row by row, null where a bit is not set
abbrev pub masked_by : List Bool → List Cell → List Cell
masked_by [] cells = []
masked_by (bit ∷ bits) [] = []
masked_by (bit ∷ bits) (cell ∷ cells) = (if bit then cell else null) ∷ masked_by bits cells

-- cells row by row, null where the row is null
abbrev pub masked : Option (List Bool) → List Cell → List Cell
masked None cells = cells
masked (Some bits) cells = masked_by bits cells
