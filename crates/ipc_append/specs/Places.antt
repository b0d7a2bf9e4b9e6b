-- Where a file goes on: behind the farthest of its blocks. (File.fbs, Block.)
use Rattle.std.specs.Prelude.{◌≡◌, ℕ, ◌+◌, List, [], ◌∷◌, All, FitsSigned, length, max, nat_le, nat_lt, Result, Ok, Err}
use Rattle.std.specs.Int.{w32}
use Rattle.arrow_spec.specs.declared.error.IpcError.{IpcError}
use Rattle.arrow_spec.specs.declared.error.OutOfSpecKind.TheVariants.{BlockRange, MissingRecordBatches}
use Rattle.arrow_spec.specs.declared.message.Block.{Block}
use Rattle.arrow_spec.specs.Files.{FileBlock}
use Rattle.arrow_spec.specs.Readings.{◌>>=◌, IsAmong, Reading, only_if, refusals}
use Rattle.ipc_streams.specs.Below.{FileMetadata, block_by}

-- a call gives what a reading says, or one of its refusals; it takes no memory, and asks no device
abbrev pub Tells : {A : Type 0} → Result A IpcError → Reading A → Type 0
Tells (Ok x) reading = reading ≡ Ok x
Tells (Err e) reading = IsAmong (refusals reading) e

-- the place behind a block
abbrev pub behind_block : FileBlock → ℕ
behind_block x = x.offset + (x.metadata + x.body)

-- the place behind a block none of whose numbers is negative
abbrev pub block_end : Block → Reading ℕ
block_end x = block_by x >>= λ b. Ok (behind_block b)

-- the farthest of a place and the ends of blocks
unfoldable pub farthest : ℕ → List Block → Reading ℕ
farthest place [] = Ok place
farthest place (x ∷ xs) = block_end x >>= λ end. farthest (max place end) xs

-- the end of the farthest block, a dictionary's or a record batch's: there has to be a record batch, no block has a negative number, and none passes the file's end
unfoldable pub last_end : FileMetadata → Reading ℕ
last_end m = do
  some ← only_if (nat_lt 0 (length m.blocks.items)) MissingRecordBatches
  dictionaries ← farthest 0 m.dictionaries.items
  end ← farthest dictionaries m.blocks.items
  inside ← only_if (nat_le end m.size) BlockRange
  Ok end

-- the length of each block's metadata has its width (File.fbs, Block: metaDataLength)
abbrev pub HaveWidths : List Block → Type 0
HaveWidths xs = All (λ x. FitsSigned w32 x.meta_data_length) xs
