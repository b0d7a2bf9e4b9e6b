-- What holds of the rows of an array at some numbers.
use Rattle.std.specs.Prelude.{◌≡◌, ℕ, List, Bool, length, None}
use Rattle.arrow_arrays.specs.Parts.{Parts, fault_in, kind_in, rows_in, cells_in}
use Rattle.array_filter.specs.Rows.{AreBelow, marked, marked_from, taken}
use Rattle.array_filter.specs.Taken.{rows_taken}

-- they make an array of the same kind, with a row for each number, whose cells are those of the array at these numbers
pub record IsTaken (rows : List ℕ) (p : Parts) : Type 0 where
  pub same_kind : kind_in (rows_taken rows p) ≡ kind_in p
  pub all_rows : rows_in (rows_taken rows p) ≡ length rows
  pub no_fault : fault_in (rows_taken rows p) ≡ None
  pub same_cells : cells_in (rows_taken rows p) ≡ taken rows (cells_in p)

abbrev pub RowsAreTaken : Type 0
RowsAreTaken = (rows : List ℕ) (p : Parts) → fault_in p ≡ None → AreBelow (rows_in p) rows → IsTaken rows p

-- and the items that are marked are those at the numbers of the marks
abbrev pub MarkedAreTaken : Type 1
MarkedAreTaken = (A : Type 0) (marks : List Bool) (xs : List A) → length marks ≡ length xs → marked marks xs ≡ taken (marked_from 0 marks) xs
