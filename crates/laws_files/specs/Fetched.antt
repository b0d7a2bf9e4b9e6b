-- The parts of a file that are fetched under a request: of what is read for no rows, none of the buffers that it would need. (Arrow Columnar Format, "IPC File Format".)
use Rattle.std.specs.Prelude.{ℕ, zero, suc, ◌+◌, ◌-◌, List, [], ◌∷◌, ◌++◌, length, Option, Ok}
use Rattle.arrow_spec.specs.declared.error.IpcError.TheVariants.{OutOfSpec}
use Rattle.arrow_spec.specs.declared.error.OutOfSpecKind.TheVariants.{InvalidId}
use Rattle.arrow_spec.specs.Readings.{Reading, meaning, ◌>>=◌, natural, required}
use Rattle.arrow_spec.specs.Kinds.{uses_in, values_under}
use Rattle.arrow_spec.specs.Messages.{batch_at, dictionary_at, version_of}
use Rattle.arrow_spec.specs.Counts.{first_place}
use Rattle.arrow_spec.specs.Files.{Meta, FileBlock, Request, meta_of, block_message, block_body, dictionaries_read, record_batch_of, share, what_is_left}
use Rattle.arrow_spec.specs.Needed.{Range, all_need, columns_looked_at, footer_size, looked_at, message_range, or_nothing, ranges}

-- the buffers of what is read for so many rows
abbrev pub for_rows : ℕ → List Range → List Range
for_rows zero buffers = []
for_rows (suc n) buffers = buffers

-- what is fetched of a record block, and how many of its rows are read
unfoldable pub batch_fetched : List ℕ → Meta → Request → FileBlock → Option ℕ → Reading (List Range × ℕ)
batch_fetched b meta r block left = do
  m ← block_message b block 3
  tables ← batch_at m.0 m.1.header
  version ← version_of m.0 m.1
  range ← message_range b block
  rows ← natural tables.length
  let source = record_batch_of meta.schema.order version tables (block_body b block)
  let buffers = ranges source (block.offset + block.metadata) (columns_looked_at source r.columns meta.schema.fields 0 first_place)
  Ok (range ∷ for_rows (share left rows) buffers, share left rows)

-- of record blocks in order, each cut to what the ones before leave of the limit
unfoldable pub batches_fetched : List ℕ → Meta → Request → List FileBlock → Option ℕ → Reading (List Range)
batches_fetched b meta r [] left = Ok []
batches_fetched b meta r (block ∷ blocks) left = do
  first ← batch_fetched b meta r block left
  others ← batches_fetched b meta r blocks (what_is_left left first.1)
  Ok (first.0 ++ others)

-- what is fetched of a dictionary block, all of whose rows are read
unfoldable pub dictionary_fetched : List ℕ → Meta → FileBlock → Reading (List Range)
dictionary_fetched b meta block = do
  m ← block_message b block 2
  x ← dictionary_at m.0 m.1.header
  version ← version_of m.0 m.1
  range ← message_range b block
  kind ← required (OutOfSpec (InvalidId x.id)) (values_under x.id (uses_in meta.schema.fields))
  rows ← natural x.values.length
  let source = record_batch_of meta.schema.order version x.values (block_body b block)
  Ok (range ∷ for_rows rows (ranges source (block.offset + block.metadata) (looked_at source kind first_place)))

-- trailer, footer, dictionaries and record blocks
unfoldable pub parts_fetched : List ℕ → Request → Reading (List Range)
parts_fetched b r = do
  meta ← meta_of b
  n ← footer_size b
  dictionaries ← all_need (λ block. dictionary_fetched b meta block) (dictionaries_read meta.blocks meta.dictionaries)
  batches ← batches_fetched b meta r meta.blocks r.limit
  Ok (record { place = length b - 10; length = 10 } ∷ record { place = length b - 10 - n; length = n } ∷ dictionaries ++ batches)

-- the ranges that are fetched under a request
unfoldable pub fetched : List ℕ → Request → List Range
fetched b r = or_nothing (meaning (parts_fetched b r))
