-- What a footer that was read stands for, and its parts. (File.fbs, Footer.)
use Rattle.std.specs.Prelude.{◌≡◌, ℕ, ◌+◌, ◌*◌, List, map, drop, not, nat_le, Result, Ok, pos, All}
use Rattle.std.specs.Int.{w32, w64}
use Rattle.std.specs.Str.{bytes_eq}
use Rattle.arrow_spec.specs.declared.error.FlatError.{FlatError}
use Rattle.arrow_spec.specs.declared.error.IpcError.{IpcError}
use Rattle.arrow_spec.specs.declared.error.IpcError.TheVariants.{OutOfSpec, Unsupported}
use Rattle.arrow_spec.specs.declared.error.Feature.TheVariants as features
use Rattle.arrow_spec.specs.declared.error.OutOfSpecKind.TheVariants as kinds
use Rattle.arrow_spec.specs.declared.message.Block.{Block}
use Rattle.arrow_spec.specs.Readings.{Reading, ◌>>=◌, unless, only_if, required, as_kind}
use Rattle.arrow_spec.specs.Flat.{Table, root, signed_at, slot_table, slot_vector}
use Rattle.arrow_spec.specs.Schema.{Schema, empty_vector, schema_of}
use Rattle.arrow_spec.specs.Counts.{magnitude}
use Rattle.arrow_spec.specs.Kinds.{Metadata}
use Rattle.arrow_spec.specs.Messages.{footer_pairs}
use Rattle.arrow_spec.specs.Files.{FileBlock, Meta, meta_in, arrow_1, block_of, block_at, blocks_at, feather_v1, footer_length}
use Rattle.arrow_flat.specs.Read.{VectorIn}
use Rattle.ipc_fields.specs.IpcFields.{metadata_of, schema_view}
use Rattle.ipc_schema.specs.declared.footer.BlockList.{BlockList}
use Rattle.ipc_schema.specs.declared.footer.BlockList.TheVariants.{RecordBatches, Dictionaries}
use Rattle.ipc_schema.specs.declared.footer.Footer.{Footer}

-- a block by its numbers, none of which is negative
abbrev pub file_block : Block → FileBlock
file_block x = record { offset = magnitude x.offset; metadata = magnitude x.meta_data_length; body = magnitude x.body_length }

-- no number of a block is negative
pub record IsNatural (x : Block) : Type 0 where
  pub offset : x.offset ≡ pos (magnitude x.offset)
  pub metadata : x.meta_data_length ≡ pos (magnitude x.meta_data_length)
  pub body : x.body_length ≡ pos (magnitude x.body_length)

-- none of a footer's blocks, in either list
pub record HasNaturalBlocks (f : Footer) : Type 0 where
  pub blocks : All IsNatural f.blocks.items
  pub dictionaries : All IsNatural f.dictionaries.items

-- what a footer says
abbrev pub footer_view : Footer → Meta
footer_view f = record {
  schema = schema_view (f.schema, f.ipc_schema, f.custom_schema_metadata);
  blocks = map file_block f.blocks.items;
  dictionaries = map file_block f.dictionaries.items;
}

-- the same, and its own pairs
abbrev pub whole_view : Footer → Meta × Metadata
whole_view f = (footer_view f, metadata_of f.custom_metadata)

-- what a footer's bytes say, and its own pairs
unfoldable pub whole_footer : List ℕ → Reading (Meta × Metadata)
whole_footer f = meta_in f >>= λ meta. footer_pairs f >>= λ custom. Ok (meta, custom)

-- the numbers of a block
abbrev pub block_numbers_at : List ℕ → ℕ → Result Block FlatError
block_numbers_at b p = signed_at w64 b p >>= λ x. signed_at w32 b (p + 8) >>= λ y. signed_at w64 b (p + 16)
    >>= λ z. Ok (record { offset = x; meta_data_length = y; body_length = z })

-- a block whose numbers are not negative
abbrev pub block_by : Block → Reading FileBlock
block_by x = block_of x.offset x.meta_data_length x.body_length

-- a fault in a list of blocks
abbrev pub fault_in : BlockList → FlatError → IpcError
fault_in RecordBatches = λ e. OutOfSpec (kinds.InvalidFlatbufferRecordBatches e)
fault_in Dictionaries = λ e. OutOfSpec (kinds.InvalidFlatbufferDictionaries e)

-- a block of a vector, and all of them
abbrev pub block_in : BlockList → VectorIn → ℕ → Reading FileBlock
block_in list v i = block_at (fault_in list) v.bytes (v.vector.first + 24 * i)

abbrev pub blocks_in : BlockList → VectorIn → Reading (List FileBlock)
blocks_in list v = blocks_at (fault_in list) v.bytes v.vector

-- the blocks of record batches, which have to be there
unfoldable pub records_part : List ℕ → Table → Reading (List FileBlock)
records_part f t = as_kind kinds.InvalidFlatbufferRecordBatches (slot_vector 24 f t 3) >>= required (OutOfSpec kinds.MissingRecordBatches)
    >>= λ v. blocks_at (λ e. OutOfSpec (kinds.InvalidFlatbufferRecordBatches e)) f v

-- the blocks of record batches of a footer, of which nothing else is looked at
unfoldable pub record_blocks_in : List ℕ → Reading (List FileBlock)
record_blocks_in f = as_kind kinds.InvalidFlatbufferFooter (root f) >>= λ t. records_part f t

-- the blocks of dictionaries
unfoldable pub dictionaries_part : List ℕ → Table → Reading (List FileBlock)
dictionaries_part f t = as_kind kinds.InvalidFlatbufferDictionaries (slot_vector 24 f t 2)
    >>= λ v. blocks_at (λ e. OutOfSpec (kinds.InvalidFlatbufferDictionaries e)) f (empty_vector v)

-- the schema, which has to be there
unfoldable pub schema_in_footer : List ℕ → Table → Reading Schema
schema_in_footer f t = as_kind kinds.InvalidFlatbufferSchema (slot_table f t 1) >>= required (OutOfSpec kinds.MissingSchema) >>= λ s. schema_of f s

-- a footer by its parts
unfoldable pub footer_parts : List ℕ → Reading Meta
footer_parts f = do
  t ← as_kind kinds.InvalidFlatbufferFooter (root f)
  blocks ← records_part f t
  dictionaries ← dictionaries_part f t
  schema ← schema_in_footer f t
  Ok (record { schema = schema; blocks = blocks; dictionaries = dictionaries })

-- the footer's length, by the last ten bytes of a file of so many bytes
unfoldable pub footer_length_in : List ℕ → ℕ → Reading ℕ
footer_length_in end size = do
  feather ← unless (not (bytes_eq (drop 6 end) feather_v1)) (Unsupported features.FeatherV1)
  trailer ← only_if (bytes_eq (drop 4 end) arrow_1) kinds.InvalidFooter
  n ← as_kind (λ f. kinds.Truncated) (signed_at w32 end 0) >>= footer_length
  whole ← only_if (nat_le (n + 10) size) kinds.Truncated
  Ok n
