-- What views are built of: the tables of a record batch whose body stands in the input. (Arrow Columnar Format, "RecordBatch message".)
use Rattle.std.specs.Prelude.{◌≡◌, ℕ, ◌*◌, ◌≤◌, ◌<◌, List}
use Rattle.arrow_spec.specs.Kinds.{Kind}
use Rattle.arrow_spec.specs.Counts.{RecordBatch, Place}
use Rattle.arrow_spec.specs.Arrays.{Dictionaries}
use Rattle.arrow_spec.specs.ArrayCells.{cell}
use Rattle.view_types.specs.declared.layout.Range.{Range}
use Rattle.view_types.specs.Ranges.{Lies}
use Rattle.view_types.specs.Views.{View, rows_of, cell_of, part_in, order_of}
use Rattle.ipc_view.specs.declared.batch.BatchTables.{BatchTables}
use Rattle.ipc_view.specs.declared.batch.ArrayPlace.{ArrayPlace}

abbrev pub batch_of : BatchTables → RecordBatch
batch_of t = record { order = order_of t.is_big_endian; version = t.version; nodes = t.nodes.now; buffers = t.buffers.now; variadic = t.variadic.now; body = part_in t.input.now t.body }

abbrev pub place_of : ArrayPlace → Place
place_of p = record { node = p.node; buffer = p.buffer; view = p.view }

-- a range with a bit for each row
abbrev pub HasBitsIn : List ℕ → ℕ → Range → Type 0
HasBitsIn input rows r = Lies input r × (rows ≤ 8 * r.length)

-- the view of an array at a place of a record batch, read for so many rows: it has the cells that the batch has
pub record IsViewOf (m : RecordBatch) (d : Dictionaries) (k : Kind) (p : Place) (rows : ℕ) (v : View) : Type 0 where
  pub all_rows : rows_of v ≡ rows
  pub cells : (row : ℕ) → row < rows → cell_of v row ≡ cell m d k p row
