-- The columns of a record batch that are asked for: their refusals and their cells. (Arrow Columnar Format, "RecordBatch message".)
use Rattle.std.specs.Prelude.{ℕ, suc, List, [], ◌∷◌, Bool, true, false, Option, Some, None, Ok, nat_eq, ◌||◌}
use Rattle.arrow_spec.specs.declared.error.IpcError.{IpcError}
use Rattle.arrow_spec.specs.Readings.{◌>>=◌, Reading, free_of}
use Rattle.arrow_spec.specs.Kinds.{Kind, Fields, none, field}
use Rattle.arrow_spec.specs.Cells.{Cell}
use Rattle.arrow_spec.specs.Counts.{RecordBatch, Place, after}
use Rattle.arrow_spec.specs.Arrays.{Dictionaries, from_on}
use Rattle.arrow_spec.specs.ArrayCells.{cell}
use Rattle.arrow_spec.specs.Faults.{count_faults, column_faults}

-- whether a column is among those asked for
abbrev pub stands_in : List ℕ → ℕ → Bool
stands_in [] c = false
stands_in (x ∷ xs) c = nat_eq x c || stands_in xs c

-- a column is asked for
abbrev pub is_chosen : Option (List ℕ) → ℕ → Bool
is_chosen None c = true
is_chosen (Some cs) c = stands_in cs c

-- a column's refusals; one that isn't chosen is only counted
abbrev pub chosen_faults : Bool → RecordBatch → Dictionaries → Kind → Place → ℕ → ℕ → List IpcError
chosen_faults true m d k p rows few = column_faults m d k p rows few
chosen_faults false m d k p rows few = count_faults m k p

-- the cells of a column that is asked for
abbrev pub chosen_cells : Bool → RecordBatch → Dictionaries → Kind → Place → ℕ → List Cell
chosen_cells true m d k p few = from_on (cell m d k p) 0 few
chosen_cells false m d k p few = []

-- the columns from number c at a place on, in the file's order, each read for the first few of its rows
unfoldable pub columns_at : RecordBatch → Dictionaries → Option (List ℕ) → Fields → ℕ → Place → ℕ → ℕ → Reading (List (List Cell))
columns_at m d asked none c p rows few = Ok []
columns_at m d asked (field name nullable metadata kind others) c p rows few = do
  fits ← free_of (chosen_faults (is_chosen asked c) m d kind p rows few)
  rest ← columns_at m d asked others (suc c) (after m kind p) rows few
  Ok (chosen_cells (is_chosen asked c) m d kind p few ∷ rest)
