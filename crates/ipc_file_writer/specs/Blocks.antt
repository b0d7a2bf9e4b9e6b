-- Where the messages of a file stand. (File.fbs, Block.)
use Rattle.std.specs.Prelude.{◌≡◌, ◌⊎◌, ℕ, ◌+◌, List, [], ◌∷◌, ◌++◌, length, map, Bool, true, false, nat_le, ◌&&◌, Result, Ok, Err}
use Rattle.std.specs.List.{flat_map}
use Rattle.std.specs.declared.alloc.Global.{Global}
use Rattle.std.specs.declared.vec.Vec.{Vec}
use Rattle.arrow_spec.specs.declared.error.IpcError.{IpcError}
use Rattle.arrow_spec.specs.declared.error.IpcError.TheVariants.{Memory, TooLarge}
use Rattle.arrow_spec.specs.declared.message.Block.{Block}
use Rattle.arrow_spec.specs.Files.{FileBlock}
use Rattle.arrow_arrays.specs.Batches.{Batch}
use Rattle.ipc_messages.specs.Below.{IsNatural, file_block, ToSend, batch_message}
use Rattle.ipc_messages.specs.Messages.{Sizes, chunk_text, sent_sizes, sizes_of, values_text}
use Rattle.ipc_file_writer.specs.declared.blocks.ChunkBlocks.{ChunkBlocks}
use Rattle.ipc_file_writer.specs.declared.blocks.FileBlocks.{FileBlocks}
use Rattle.ipc_file_writer.specs.declared.placing.MessageSizes.{MessageSizes}
use Rattle.ipc_file_writer.specs.declared.placing.PlacedBlock.{PlacedBlock}
use Rattle.ipc_file_writer.specs.declared.blocks.PlacedMessages.{PlacedMessages}

-- how many bytes a message has before its body, and in it
abbrev pub message_sizes : MessageSizes → Sizes
message_sizes x = record { front = x.front; body = x.body }

-- the block of a message at a place
abbrev pub block_at : ℕ → Sizes → FileBlock
block_at at x = record { offset = at; metadata = x.front; body = x.body }

-- the place behind it
abbrev pub behind : ℕ → Sizes → ℕ
behind at x = at + (x.front + x.body)

-- the blocks of messages that stand one behind another from a place on, and the place behind them
abbrev pub blocks_at : ℕ → List Sizes → List FileBlock
blocks_at at [] = []
blocks_at at (x ∷ xs) = block_at at x ∷ blocks_at (behind at x) xs

abbrev pub behind_all : ℕ → List Sizes → ℕ
behind_all at [] = at
behind_all at (x ∷ xs) = behind_all (behind at x) xs

-- the numbers of a block fit: its front into 31 bits, all its places into 63
abbrev pub is_placed : ℕ → Sizes → Bool
is_placed at x = nat_le x.front 2147483647 && nat_le (behind at x) 9223372036854775807

-- those of each
abbrev pub are_placed : ℕ → List Sizes → Bool
are_placed at [] = true
are_placed at (x ∷ xs) = is_placed at x && are_placed (behind at x) xs

-- a message has a block at a place
pub record IsPlaced (at : ℕ) (x : Sizes) (p : PlacedBlock) : Type 0 where
  pub fits : is_placed at x ≡ true
  pub block : file_block p.block ≡ block_at at x
  pub natural : IsNatural p.block
  pub end : p.end ≡ behind at x

abbrev pub Places : Result PlacedBlock IpcError → ℕ → Sizes → Type 0
Places (Ok p) at x = IsPlaced at x p
Places (Err e) at x = (e ≡ TooLarge) × (is_placed at x ≡ false)

-- messages have blocks from a place on
pub record ArePlaced (at : ℕ) (xs : List Sizes) (p : PlacedMessages) : Type 0 where
  pub fit : are_placed at xs ≡ true
  pub blocks : map file_block p.blocks.items ≡ blocks_at at xs
  pub end : p.end ≡ behind_all at xs

-- or a place would be too large, or memory was wanted
abbrev pub PlacesAll : Result PlacedMessages IpcError → ℕ → List Sizes → Type 0
PlacesAll (Ok p) at xs = ArePlaced at xs p
PlacesAll (Err e) at xs = (e ≡ Memory) ⊎ ((e ≡ TooLarge) × (are_placed at xs ≡ false))

-- of the last of some messages a batch's block is made, and of those before it the blocks of dictionaries
pub record IsChunkPlaced (at : ℕ) (xs : List Sizes) (c : ChunkBlocks) : Type 0 where
  pub fit : are_placed at xs ≡ true
  pub blocks : map file_block c.dictionaries.items ++ file_block c.batch ∷ [] ≡ blocks_at at xs
  pub end : c.end ≡ behind_all at xs

abbrev pub PlacesChunk : Result ChunkBlocks IpcError → ℕ → List Sizes → Type 0
PlacesChunk (Ok c) at xs = IsChunkPlaced at xs c
PlacesChunk (Err e) at xs = (e ≡ Memory) ⊎ ((e ≡ TooLarge) × (are_placed at xs ≡ false))

-- ── the blocks of a file ──

-- the sizes of the messages of dictionaries' values, and of the batch behind them
abbrev pub chunk_sizes : List ToSend → Batch → List Sizes
chunk_sizes sent b = map sent_sizes sent ++ sizes_of (batch_message b) ∷ []

-- blocks as a footer has them
abbrev pub file_blocks : Vec Block Global → List FileBlock
file_blocks v = map file_block v.items

-- the blocks stay
pub record SameBlocks (old new : FileBlocks) : Type 0 where
  pub dictionaries : new.dictionaries.items ≡ old.dictionaries.items
  pub records : new.records.items ≡ old.records.items
  pub end : new.end ≡ old.end

-- behind them are those of the messages of dictionaries' values and of a batch, each from the place on that is behind all bytes before it
pub record HasMore (old new : FileBlocks) (sent : List ToSend) (b : Batch) : Type 0 where
  pub dictionaries : file_blocks new.dictionaries ≡ file_blocks old.dictionaries ++ blocks_at old.end (map sent_sizes sent)
  pub records : file_blocks new.records ≡ file_blocks old.records ++ block_at (old.end + length (flat_map values_text sent)) (sizes_of (batch_message b)) ∷ []
  pub end : new.end ≡ old.end + length (chunk_text sent b)
