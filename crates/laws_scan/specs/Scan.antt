-- What a file means where it is read for the rows that meet a filter, and how many bytes are fetched of it at most. (Arrow Columnar Format, "IPC File Format".)
use Rattle.std.specs.Prelude.{ℕ, ◌+◌, List, [], ◌∷◌, ◌++◌, length, Bool, true, false, Option, Some, None, Ok, map, nat_lt, if◌then◌else◌}
use Rattle.arrow_spec.specs.declared.error.Feature.TheVariants.{Predicate}
use Rattle.arrow_spec.specs.declared.error.IpcError.{IpcError}
use Rattle.arrow_spec.specs.declared.error.IpcError.TheVariants.{Projection, Unsupported}
use Rattle.arrow_spec.specs.Counts.{first_place}
use Rattle.arrow_spec.specs.Features.{chosen_floats}
use Rattle.arrow_spec.specs.Files.{ArrowTable, Asked, FileBlock, Purpose, TableBatch, batch_of, block_body, block_message, columns_right, dictionaries_of, dictionaries_read, first_column, if_sent, meta_of, record_batch_of, to_read, to_send}
use Rattle.arrow_spec.specs.Kinds.{Fields, width}
use Rattle.arrow_spec.specs.Messages.{batch_at, version_of}
use Rattle.arrow_spec.specs.Needed.{Range, columns_looked_at, footer_size, lengths, message_range, or_nothing, ranges}
use Rattle.arrow_spec.specs.Readings.{◌>>=◌, IsAmong, Reading, free_of, meaning, natural, refusals, unless}
use Rattle.arrow_spec.specs.Sent.{SentMessage, may_be_sent}
use Rattle.arrow_arrays.specs.Parts.{Parts}
use Rattle.ipc_read_laws.specs.Batches.{columns_read}
use Rattle.ipc_read_laws.specs.Held.{none_held}
use Rattle.ipc_write.specs.Batches.{top_column}
use Rattle.ipc_write_laws.specs.Streams.{written_batch}
use Rattle.laws_files.specs.Fetched.{for_rows}
use Rattle.laws_transcode.specs.Files.{with_columns}
use Rattle.ipc_reader.specs.Below.{block_record}
use Rattle.laws_walk.specs.Fetching.{cost_up_to}
use Rattle.laws_walk.specs.Walks.{Walk, walk_reading}
use Rattle.array_filter.specs.Rows.{marked_from, taken}
use Rattle.array_filter.specs.Taken.{rows_taken}
use Rattle.row_filters.specs.Filters.{is_tested, marks_of}
use Rattle.filter_types.specs.declared.filter.Filter.{Filter}
use Rattle.laws_scan.specs.Filtered.{any_marked, marked_batch, marked_count}

-- ── columns ──

-- The filter's column is one, then each of the columns asked for is one and stands there once, then the filter's column is of numbers.
-- Of its own kind nothing more is looked at, since no number is a float.
abbrev pub scan_right : Filter → Option (List ℕ) → Fields → Reading (Unit {0})
scan_right f columns fs =
    unless (nat_lt f.column (width fs)) (Projection f.column)
    >>= λ here. columns_right columns (width fs)
    >>= λ right. unless (is_tested fs f.column) (Unsupported Predicate)
    >>= λ tested. free_of (chosen_floats columns fs 0)

-- the filter's column alone
abbrev pub filter_alone : Filter → Option (List ℕ)
filter_alone f = Some (f.column ∷ [])

-- ── a record block ──

-- the marks of its rows: its filter's column alone is read
unfoldable pub block_marks : Filter → List ℕ → Asked → FileBlock → Reading (List Bool)
block_marks f b a block = batch_of to_read b (with_columns (filter_alone f) a) block None >>= λ tested. Ok (marks_of f (first_column tested.columns))

-- columns in the order asked
abbrev pub in_order : Option (List ℕ) → List Parts → List Parts
in_order None ps = ps
in_order (Some cs) ps = taken cs ps

-- the columns asked for, as they are read, of which the marked rows are kept; of a dictionary the keys count, since its values are sent before
unfoldable pub marked_columns : List ℕ → Asked → FileBlock → List Bool → Reading (List Parts)
marked_columns b a block marks = do
  m ← block_record b block
  rows ← natural m.tables.length
  Ok (map (rows_taken (marked_from 0 marks)) (in_order a.columns (columns_read (record_batch_of a.order m.version m.tables (block_body b block)) none_held a.fields first_place rows)))

-- the message of its marked rows
unfoldable pub marked_message : List ℕ → Asked → FileBlock → List Bool → TableBatch → Reading SentMessage
marked_message b a block marks whole =
    marked_columns b a block marks >>= λ ps. Ok (written_batch (record { rows = marked_count marks; columns = map top_column ps; custom = whole.custom }))

-- it may be too large
abbrev pub marked_fits : Purpose → List ℕ → Asked → FileBlock → List Bool → TableBatch → Reading (Unit {0})
marked_fits to_read b a block marks whole = Ok tt
marked_fits to_send b a block marks whole = marked_message b a block marks whole >>= λ m. if_sent to_send (may_be_sent m)

-- a batch, where there is to be one
abbrev pub only_where : Bool → Reading TableBatch → Reading (Option TableBatch)
only_where false r = Ok None
only_where true r = r >>= λ x. Ok (Some x)

-- the marked rows of the columns asked for, where there are any: only then the block's other columns are read
unfoldable pub marked_rows : Purpose → List ℕ → Asked → FileBlock → List Bool → Reading (Option TableBatch)
marked_rows purpose b a block marks =
    only_where (any_marked marks) (batch_of to_read b a block None >>= λ whole. marked_fits purpose b a block marks whole >>= λ size. Ok (marked_batch marks whole))

-- the batch of its marked rows, none where no row is marked
unfoldable pub scan_block : Filter → Purpose → List ℕ → Asked → FileBlock → Reading (Option TableBatch)
scan_block f purpose b a block = block_marks f b a block >>= λ marks. marked_rows purpose b a block marks

-- ── what is fetched ──

-- of a record block its prefix and its metadata, once, the buffers of the filter's column, and where a row is marked those of the columns asked for
unfoldable pub block_scanned : Filter → List ℕ → Asked → FileBlock → Reading (List Range)
block_scanned f b a block = do
  m ← block_message b block 3
  tables ← batch_at m.0 m.1.header
  version ← version_of m.0 m.1
  range ← message_range b block
  rows ← natural tables.length
  marks ← block_marks f b a block
  let source = record_batch_of a.order version tables (block_body b block)
  let buffers : Option (List ℕ) → List Range = λ columns. ranges source (block.offset + block.metadata) (columns_looked_at source columns a.fields 0 first_place)
  Ok (range ∷ for_rows rows (buffers (filter_alone f)) ++ (if any_marked marks then buffers a.columns else []))

abbrev pub scan_cost : Filter → List ℕ → Asked → FileBlock → ℕ
scan_cost f b a block = lengths (or_nothing (meaning (block_scanned f b a block)))

-- ── files ──

-- the rows that meet a filter, in some columns
abbrev pub met : Filter → Option (List ℕ) → Walk
met f columns = record {
  columns = columns;
  limit = None;
  right = λ fs. scan_right f columns fs;
  batch = λ purpose b a block left. scan_block f purpose b a block;
  cost = λ b meta d block left. scan_cost f b (record { order = meta.schema.order; fields = meta.schema.fields; columns = columns; dictionaries = d; most = length b }) block;
}

-- the table of a scan
unfoldable pub scan_table : List ℕ → Filter → Option (List ℕ) → Option ArrowTable
scan_table b f columns = meaning (walk_reading to_read b (met f columns) None)

-- a refusal that may be answered
abbrev pub scan_may : List ℕ → Filter → Option (List ℕ) → IpcError → Type 0
scan_may b f columns e = IsAmong (refusals (walk_reading to_send b (met f columns) None)) e

-- what a walk over a file fetches at most: the end of the file, its footer, its dictionaries where there is a block, and its blocks
unfoldable pub file_cost : List ℕ → Walk → Reading ℕ
file_cost b w = do
  n ← footer_size b
  meta ← meta_of b
  d ← dictionaries_of b meta [] (dictionaries_read meta.blocks meta.dictionaries)
  Ok (10 + n + cost_up_to b meta w d (length meta.blocks))
