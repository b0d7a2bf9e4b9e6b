-- How many rows the record batches of a file have, by their messages alone: no pairs and no body are looked at. (Arrow Columnar Format, "IPC File Format"; Message.fbs, RecordBatch.)
use Rattle.std.specs.Prelude.{ℕ, ◌+◌, ◌-◌, ◌^◌, ◌≡◌, ◌≤◌, List, [], ◌∷◌, length, map, Option, Some, None, ℤ, pos, Ok, ⊤, nat_le, nat_lt, if◌then◌else◌}
use Rattle.arrow_spec.specs.declared.error.IpcError.{IpcError}
use Rattle.arrow_spec.specs.declared.message.Block.{Block}
use Rattle.arrow_spec.specs.declared.error.IpcError.TheVariants.{OutOfSpec, Unsupported, ReadFault, Memory}
use Rattle.arrow_spec.specs.declared.error.OutOfSpecKind.TheVariants as kinds
use Rattle.arrow_spec.specs.Readings.{Reading, ◌>>=◌, natural, only_if}
use Rattle.arrow_spec.specs.Files.{FileBlock, footer_of}
use Rattle.ipc_io.specs.Outside.{Rose}
use Rattle.ipc_schema.specs.Footers.{record_blocks_in}
use Rattle.ipc_files.specs.FileBlocks.{block_header, given}
use Rattle.ipc_files.specs.Fetching.{message_cost}

-- the rows of a block's batch
unfoldable pub block_rows : List ℕ → FileBlock → Reading ℕ
block_rows b block = block_header b block >>= λ m. natural m.tables.length

-- the rows of blocks that are given together, behind some rows: as many as an i64 can tell
unfoldable pub rows_behind : List ℕ → List Block → ℕ → Reading ℕ
rows_behind b [] n = Ok n
rows_behind b (x ∷ xs) n = do
  rows ← given x (block_rows b)
  few ← only_if (nat_lt (n + rows) (2 ^ 63)) kinds.RowCount
  rows_behind b xs (n + rows)

-- the rows of blocks
abbrev pub row_count_of : List ℕ → List Block → Reading ℤ
row_count_of b xs = rows_behind b xs 0 >>= λ n. Ok (pos n)

-- the numbers of a block of a file
abbrev pub numbers_of : FileBlock → Block
numbers_of block = record { offset = pos block.offset; meta_data_length = pos block.metadata; body_length = pos block.body }

-- the rows of a file, by the record blocks of its footer, of which no more is looked at
unfoldable pub file_row_count : List ℕ → Reading ℤ
file_row_count b = do
  f ← footer_of b
  blocks ← record_blocks_in f
  row_count_of b (map numbers_of blocks)

-- The block at which a number of rows ends, of blocks from this number on, and what remains of the rows there: a block of no more rows than remain is passed.
unfoldable pub blocks_passed : List ℕ → List Block → ℕ → ℕ → Reading (ℕ × ℕ)
blocks_passed b [] number left = Ok (number, left)
blocks_passed b (x ∷ xs) number left = do
  rows ← given x (block_rows b)
  if nat_le rows left then blocks_passed b xs (number + 1) (left - rows) else Ok (number, left)

-- why rows are not counted: bytes that are damaged or not supported, want of memory, or a fault of the source
abbrev pub CountCause : IpcError → ℕ → ℕ → Type 0
CountCause (OutOfSpec kind) faults faults' = ⊤
CountCause (Unsupported feature) faults faults' = ⊤
CountCause ReadFault faults faults' = Rose faults faults'
CountCause Memory faults faults' = ⊤
CountCause e faults faults' = ⊥

-- ── what is fetched ──

-- the prefixes and the metadata of blocks
abbrev pub messages_cost : List ℕ → List FileBlock → ℕ
messages_cost b [] = 0
messages_cost b (block ∷ blocks) = message_cost b block + messages_cost b blocks

-- of blocks of which something is read by their messages, at most these
abbrev pub MessagesFetched : {A : Type 0} → Option (List ℕ) → List FileBlock → (List ℕ → Reading A) → ℕ → ℕ → Type 0
MessagesFetched None blocks reading fetched fetched' = ⊤
MessagesFetched {A} (Some b) blocks reading fetched fetched' = (x : A) → reading b ≡ Ok x → fetched' ≤ fetched + messages_cost b blocks

-- of a file whose rows are counted, at most the end of the file, its footer and the messages of its record blocks
abbrev pub RowCountFetched : Option (List ℕ) → ℕ → ℕ → Type 0
RowCountFetched None fetched fetched' = ⊤
RowCountFetched (Some b) fetched fetched' =
    (f : List ℕ) (blocks : List FileBlock) (n : ℤ) → footer_of b ≡ Ok f → record_blocks_in f ≡ Ok blocks → row_count_of b (map numbers_of blocks) ≡ Ok n
    → fetched' ≤ fetched + 10 + length f + messages_cost b blocks
