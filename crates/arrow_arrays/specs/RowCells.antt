-- The cell that stands in a row.
use Rattle.std.specs.Prelude.{ℕ, ◌+◌, ◌*◌, ◌≤◌, ◌<◌, slice_index_or}
use Rattle.arrow_spec.specs.Cells as cells
use Rattle.arrow_spec.specs.Cells.{Cell, cells_of}
use Rattle.arrow_buffers.specs.Rows.{part}
use Rattle.arrow_arrays.specs.Heads.{across, run, Reaches}
use Rattle.arrow_arrays.specs.Parts.{rows_in, cells_in, cells_each, rows_each, tree_size, trees_size}
use Rattle.arrow_arrays.specs.PartsOf.{parts_of, forest_of}
use Rattle.arrow_arrays.specs.declared.row_value.RowValue.{RowValue}
use Rattle.arrow_arrays.specs.declared.row_value.RowValue.TheVariants.{Null, Bit, Number, Interval, Text, Bytes, List, Struct, Tagged}

abbrev pub cell_of : RowValue → Cell
cell_of Null = cells.null
cell_of (Bit b) = cells.bool b
cell_of (Number z) = cells.number z
cell_of (Interval a b c) = cells.interval a b c
cell_of (Text xs) = cells.text xs.now
cell_of (Bytes xs) = cells.bytes xs.now
cell_of (List x from count) = cells.«list» (cells_of (part from count (cells_in (parts_of x.now))))
cell_of (Struct xs row) = cells.struct (cells_of (across (cells_each (forest_of xs.now)) row))
cell_of (Tagged t x row) = cells.tagged t (slice_index_or (cells_in (parts_of x.now)) row cells.null)

-- the rows that are told of are there
abbrev pub Inside : RowValue → Type 0
Inside (List x from count) = from + count ≤ rows_in (parts_of x.now)
Inside (Struct xs row) = Reaches (run row 1) (rows_each (forest_of xs.now))
Inside (Tagged t x row) = row < rows_in (parts_of x.now)
Inside v = Unit {0}

-- how deep a value goes on
abbrev pub value_size : RowValue → ℕ
value_size (List x from count) = 3 * tree_size (parts_of x.now) + 2
value_size (Struct xs row) = 3 * trees_size (forest_of xs.now) + 3
value_size (Tagged t x row) = 3 * tree_size (parts_of x.now) + 1
value_size v = 0
