-- The cells of an array. (Arrow Columnar Format, "Physical Memory Layout".)
use Rattle.std.specs.Prelude.{ℕ, zero, suc, ◌+◌, ◌-◌, ◌*◌, take, drop, pos}
use Rattle.std.specs.Int.{w8, w32, w64, w128}
use Rattle.arrow_spec.specs.declared.types.IntervalUnit.TheVariants.{YearMonth, DayTime, MonthDayNano}
use Rattle.arrow_spec.specs.Kinds.{Kind, Fields, none, field, null, boolean, integer, float, date32, date64, time32, time64, timestamp, duration, interval, decimal, decimal256, binary, utf8, binary_view, utf8_view, fixed_size_binary, «list», fixed_size_list, struct, map, union, dictionary, extension, small}
use Rattle.arrow_spec.specs.Cells as cells
use Rattle.arrow_spec.specs.Cells.{Cell, Cells, cells_of}
use Rattle.arrow_spec.specs.Counts.{RecordBatch, Place, union_buffers, after, inside}
use Rattle.arrow_spec.specs.Arrays.{Dictionaries, found, buf, bit, or_0, signed_in, offset, row_bytes, view_of, view_bytes, integer_in, from_on, id_place, types_buffer, child_row, keyed, if_valid, number_in, part_of_row}

-- the cell of a row, by the layout of its kind
abbrev mutual
  pub cell : RecordBatch → Dictionaries → Kind → Place → ℕ → Cell
  cell m d null p row = cells.null
  cell m d boolean p row = if_valid m p row (cells.bool (bit (buf m (p.buffer + 1)) row))
  cell m d (integer t) p row = if_valid m p row (cells.number (integer_in m t (p.buffer + 1) row))
  cell m d (float t) p row = cells.null
  cell m d date32 p row = number_in m p w32 row
  cell m d date64 p row = number_in m p w64 row
  cell m d (time32 u) p row = number_in m p w32 row
  cell m d (time64 u) p row = number_in m p w64 row
  cell m d (timestamp u tz) p row = number_in m p w64 row
  cell m d (duration u) p row = number_in m p w64 row
  cell m d (interval YearMonth) p row = number_in m p w32 row
  cell m d (interval DayTime) p row = if_valid m p row (cells.interval (part_of_row m p 8 0 w32 row) (part_of_row m p 8 4 w32 row) (pos 0))
  cell m d (interval MonthDayNano) p row =
      if_valid m p row (cells.interval (part_of_row m p 16 0 w32 row) (part_of_row m p 16 4 w32 row) (part_of_row m p 16 8 w64 row))
  cell m d (decimal precision scale) p row = number_in m p w128 row
  cell m d (decimal256 precision scale) p row = cells.null
  cell m d (binary o) p row = if_valid m p row (cells.bytes (row_bytes m o p row))
  cell m d (utf8 o) p row = if_valid m p row (cells.text (row_bytes m o p row))
  cell m d binary_view p row = if_valid m p row (cells.bytes (view_bytes m p (view_of m p row)))
  cell m d utf8_view p row = if_valid m p row (cells.text (view_bytes m p (view_of m p row)))
  cell m d (fixed_size_binary n) p row = if_valid m p row (cells.bytes (take n (drop (n * row) (buf m (p.buffer + 1)))))
  cell m d («list» o fs) p row = if_valid m p row (cells.«list» (cells_of
      (from_on (λ j. cell_in m d fs 0 (inside 2 p) j) (offset m o (p.buffer + 1) row) (offset m o (p.buffer + 1) (suc row) - offset m o (p.buffer + 1) row))))
  cell m d (fixed_size_list n fs) p row = if_valid m p row (cells.«list» (cells_of (from_on (λ j. cell_in m d fs 0 (inside 1 p) j) (n * row) n)))
  cell m d (struct fs) p row = if_valid m p row (cells.struct (row_of m d fs (inside 1 p) row))
  cell m d (map sorted fs) p row = if_valid m p row (cells.«list» (cells_of
      (from_on (λ j. cell_in m d fs 0 (inside 2 p) j) (offset m small (p.buffer + 1) row)
      (offset m small (p.buffer + 1) (suc row) - offset m small (p.buffer + 1) row))))
  cell m d (union mode stated ids fs) p row = cells.tagged (signed_in m w8 (types_buffer m p) row)
      (cell_in m d fs (or_0 (id_place ids (signed_in m w8 (types_buffer m p) row))) (inside (union_buffers m.version mode) p) (child_row m mode p row))
  cell m d (dictionary t ordered id k) p row = if_valid m p row (keyed (found d id) (integer_in m t (p.buffer + 1) row))
  cell m d (extension name metadata k) p row = cell m d k p row

  -- the cell of the i-th of some fields, whose arrays stand from a place on
  pub cell_in : RecordBatch → Dictionaries → Fields → ℕ → Place → ℕ → Cell
  cell_in m d none i p row = cells.null
  cell_in m d (field name nullable metadata k others) zero p row = cell m d k p row
  cell_in m d (field name nullable metadata k others) (suc i) p row = cell_in m d others i (after m k p) row

  -- the cells of a row, of each field one
  pub row_of : RecordBatch → Dictionaries → Fields → Place → ℕ → Cells
  row_of m d none p row = cells.none
  row_of m d (field name nullable metadata k others) p row = cells.also (cell m d k p row) (row_of m d others (after m k p) row)
