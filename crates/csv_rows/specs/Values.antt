-- What stands in a row of an array, as it is shown in a text.
use Rattle.std.specs.Prelude.{◌≡◌, ℕ, slice_get}
use Rattle.arrow_spec.specs.Kinds.{Kind}
use Rattle.arrow_spec.specs.Cells as cells
use Rattle.arrow_spec.specs.Cells.{Cell}
use Rattle.arrow_spec.specs.Arrays.{cell_or_null}
use Rattle.arrow_arrays.specs.Parts.{Parts, cells_in}
use Rattle.csv_texts.specs.Texts.{cell_text}
use Rattle.csv_rows.specs.declared.value.Value.{Value}
use Rattle.csv_rows.specs.declared.value.Value.TheVariants.{Null, Bit, Number, Interval, Text, Bytes}

abbrev pub cell_of : Value → Cell
cell_of Null = cells.null
cell_of (Bit b) = cells.bool b
cell_of (Number z) = cells.number z
cell_of (Interval a b c) = cells.interval a b c
cell_of (Text xs) = cells.text xs.now
cell_of (Bytes xs) = cells.bytes xs.now

-- the cell of a row
abbrev pub cell_at : Parts → ℕ → Cell
cell_at p row = cell_or_null (slice_get (cells_in p) row)

-- a value has the text of a cell, whatever the kind
abbrev pub Shows : Value → Cell → Type 0
Shows v c = (k : Kind) → cell_text k c ≡ cell_text k (cell_of v)
