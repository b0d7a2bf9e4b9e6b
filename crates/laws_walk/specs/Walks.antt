-- A file whose blocks are read one after another, each for at most one batch. (Arrow Columnar Format, "IPC File Format".)
use Rattle.std.specs.Prelude.{◌≡◌, ℕ, ◌+◌, List, [], ◌∷◌, length, Bool, true, Option, Some, None, Ok, Err, not, ◌&&◌}
use Rattle.arrow_spec.specs.Arrays.{Dictionaries}
use Rattle.arrow_spec.specs.Features.{chosen_floats}
use Rattle.arrow_spec.specs.Files.{ArrowTable, Asked, FileBlock, Meta, Purpose, Request, TableBatch, batch_of, columns_right, custom_of, dictionaries_of, dictionaries_read, dictionaries_sent, fields_as_asked, if_sent, meta_of, taken, to_read, what_is_left}
use Rattle.arrow_spec.specs.Kinds.{Fields, Metadata, bare, width}
use Rattle.arrow_spec.specs.Readings.{◌>>=◌, Reading, free_of, is_absent}
use Rattle.arrow_spec.specs.Sent.{may_be_sent, stream_schema}
use Rattle.ipc_reader.specs.Below.{block_cost}
use Rattle.laws_transcode.specs.Files.{table_of}

-- What the blocks of a file are read for: the columns that are kept, how many rows at most, what is looked at of the fields before all
-- dictionaries, the batch that a block gives under what is left of the limit, if it gives one, and how many bytes a block costs.
pub record Walk : Type 0 where
  pub columns : Option (List ℕ)
  pub limit : Option ℕ
  pub right : Fields → Reading (Unit {0})
  pub batch : Purpose → List ℕ → Asked → FileBlock → Option ℕ → Reading (Option TableBatch)
  pub cost : List ℕ → Meta → Dictionaries → FileBlock → Option ℕ → ℕ

-- the columns and the rows of a request: each block gives its batch, cut to what is left
abbrev pub within : Request → Walk
within r = record {
  columns = r.columns;
  limit = r.limit;
  right = λ fs. columns_right r.columns (width fs) >>= λ columns. free_of (chosen_floats r.columns fs 0);
  batch = λ purpose b a block left. batch_of purpose b a block left >>= λ x. Ok (Some x);
  cost = λ b meta d block left. block_cost b meta r block left;
}

-- what a walk asks of a file's blocks, under the dictionaries that were read
abbrev pub asked_by : List ℕ → Meta → Walk → Dictionaries → Asked
asked_by b meta w d = record { order = meta.schema.order; fields = meta.schema.fields; columns = w.columns; dictionaries = d; most = length b }

-- what a batch leaves of a limit, if there is one
abbrev pub left_behind : Option ℕ → Option TableBatch → Option ℕ
left_behind left None = left
left_behind left (Some x) = what_is_left left x.rows

-- batches behind one, if there is one
abbrev pub behind_one : Option TableBatch → List TableBatch → List TableBatch
behind_one None xs = xs
behind_one (Some x) xs = x ∷ xs

-- blocks in order; the dictionaries are sent with the first batch
unfoldable pub blocks_walked : Purpose → List ℕ → Walk → Asked → Bool → List FileBlock → Option ℕ → Reading (List TableBatch)
blocks_walked purpose b w a is_first [] left = Ok []
blocks_walked purpose b w a is_first (block ∷ blocks) left = do
  here ← w.batch purpose b a block left
  dictionaries ← dictionaries_sent (is_first && not (is_absent here)) purpose a
  others ← blocks_walked purpose b w a (is_first && is_absent here) blocks (left_behind left here)
  Ok (behind_one here others)

-- the table of some batches of a file
abbrev pub table_walked : Metadata → Meta → Walk → List TableBatch → ArrowTable
table_walked custom meta w xs = table_of (bare (fields_as_asked w.columns meta.schema.fields)) meta.schema.metadata custom xs

-- what a walk over a file gives, in all its blocks or the first j
unfoldable pub walk_reading : Purpose → List ℕ → Walk → Option ℕ → Reading ArrowTable
walk_reading purpose b w j = do
  meta ← meta_of b
  custom ← custom_of b
  right ← w.right meta.schema.fields
  size ← if_sent purpose (may_be_sent (stream_schema (fields_as_asked w.columns meta.schema.fields) meta.schema.metadata custom))
  dictionaries ← dictionaries_of b meta [] (dictionaries_read (taken j meta.blocks) meta.dictionaries)
  batches ← blocks_walked purpose b w (asked_by b meta w dictionaries) true (taken j meta.blocks) w.limit
  Ok (table_walked custom meta w batches)

-- a file whose metadata was read, and of which nothing is refused before its dictionaries
pub record IsOpenFor (purpose : Purpose) (b : List ℕ) (w : Walk) (meta : Meta) (custom : Metadata) : Type 0 where
  pub read : meta_of b ≡ Ok meta
  pub pairs : custom_of b ≡ Ok custom
  pub right : w.right meta.schema.fields ≡ Ok tt
  pub small : if_sent purpose (may_be_sent (stream_schema (fields_as_asked w.columns meta.schema.fields) meta.schema.metadata custom)) ≡ Ok tt

-- ── what is fetched ──

-- what is left of a limit behind a block, as far as it is read
abbrev pub left_read : Option ℕ → Reading (Option TableBatch) → Option ℕ
left_read left (Ok here) = left_behind left here
left_read left (Err es) = left

-- how many bytes blocks cost, one after another
abbrev pub walk_cost : List ℕ → Meta → Walk → Dictionaries → List FileBlock → Option ℕ → ℕ
walk_cost b meta w d [] left = 0
walk_cost b meta w d (block ∷ blocks) left = w.cost b meta d block left + walk_cost b meta w d blocks (left_read left (w.batch to_read b (asked_by b meta w d) block left))
