-- Which rows meet a filter.
use Rattle.std.specs.Prelude.{ℕ, zero, suc, ℤ, pos, List, Bool, true, false, map, slice_get}
use Rattle.std.specs.Ordering.{int_cmp}
use Rattle.arrow_spec.specs.Arrays.{cell_or_null}
use Rattle.arrow_spec.specs.Cells as cells
use Rattle.arrow_spec.specs.Cells.{Cell}
use Rattle.arrow_spec.specs.Kinds.{Kind, Fields, none, field, integer, date32, date64, time32, time64, timestamp, duration, interval, decimal, dictionary, extension}
use Rattle.arrow_spec.specs.declared.types.IntervalUnit.TheVariants.{YearMonth}
use Rattle.arrow_arrays.specs.Parts.{Parts, cells_in}
use Rattle.filter_types.specs.Comparisons.{holds}
use Rattle.filter_types.specs.declared.filter.Filter.{Filter}

-- a row's cell is a number that meets the filter; a null meets none
abbrev pub meets : Filter → Cell → Bool
meets f (cells.number z) = holds f.op (int_cmp z f.number)
meets f x = false

-- the number that a cell holds, or 0
abbrev pub number_in : Cell → ℤ
number_in (cells.number z) = z
number_in x = pos 0

-- the marks of a column's rows
abbrev pub marks_of : Filter → List Cell → List Bool
marks_of f column = map (meets f) column

-- a row of an array meets it
abbrev pub row_meets : Filter → Parts → ℕ → Bool
row_meets f p row = meets f (cell_or_null (slice_get (cells_in p) row))

-- kinds whose cells are numbers: extensions are looked through, and a dictionary counts by its values
abbrev pub is_of_numbers : Kind → Bool
is_of_numbers (integer t) = true
is_of_numbers date32 = true
is_of_numbers date64 = true
is_of_numbers (time32 u) = true
is_of_numbers (time64 u) = true
is_of_numbers (timestamp u z) = true
is_of_numbers (duration u) = true
is_of_numbers (interval YearMonth) = true
is_of_numbers (decimal precision scale) = true
is_of_numbers (dictionary t ordered id k) = is_of_numbers k
is_of_numbers (extension name metadata k) = is_of_numbers k
is_of_numbers k = false

-- the c-th field is of numbers
abbrev pub is_tested : Fields → ℕ → Bool
is_tested none c = false
is_tested (field name nullable metadata k others) zero = is_of_numbers k
is_tested (field name nullable metadata k others) (suc c) = is_tested others c
