-- Record batches and dictionaries of a file whose bytes are lent. (Arrow Columnar Format, "IPC File Format", "Dictionary Messages".)
use Rattle.std.specs.Prelude.{◌≡◌, ℕ, List, [], map, Ok, Result, IfOk, IfErr, ℤ}
use Rattle.std.specs.BTreeMap.{BTreeMap}
use Rattle.std.specs.declared.alloc.Global.{Global}
use Rattle.std.specs.declared.vec.Vec.{Vec}
use Rattle.arrow_spec.specs.declared.error.IpcError.{IpcError}
use Rattle.arrow_spec.specs.declared.message.Block.{Block}
use Rattle.arrow_spec.specs.Readings.{Refuses, refusals}
use Rattle.arrow_spec.specs.Arrays.{Dictionaries}
use Rattle.arrow_spec.specs.Files.{Meta, TableBatch, dictionaries_of}
use Rattle.ipc_fields.specs.IpcFields.{metadata_of}
use Rattle.ipc_schema.specs.Views.{message_of}
use Rattle.ipc_files.specs.FileBlocks.{PairedMessage, file_block}
use Rattle.ipc_files.specs.FileDictionaries.{dictionaries_given}
use Rattle.view_types.specs.Views.{View, cells_in}
use Rattle.ipc_view.specs.Dictionaries.{ShowsCells, shown_in}
use Rattle.ipc_mmap.specs.declared.block.ChunkMessage.{ChunkMessage}
use Rattle.ipc_mmap.specs.declared.chunk.ChunkView.{ChunkView}

-- a chunk as a table has it
abbrev pub table_of : ChunkView → TableBatch
table_of c = record { rows = c.rows; columns = map cells_in c.columns.items; custom = metadata_of c.custom_metadata }

-- what was read of a message
abbrev pub paired_in : ChunkMessage → PairedMessage
paired_in m = record { tables = (message_of m.message).tables; version = (message_of m.message).version; custom = metadata_of m.custom_metadata }

-- a map shows what these blocks say, or they are refused
pub record ShowsDictionaries (b : List ℕ) (meta : Meta) (xs : List Block) (result : Result (BTreeMap ℤ (Vec View Global)) IpcError) : Type 0 where
  pub ok : IfOk result (λ m. (d : Dictionaries) × (dictionaries_given b meta [] xs ≡ Ok d) × ShowsCells d (shown_in m))
  -- no number of a block is negative then
  pub said : IfOk result (λ m. (d : Dictionaries) × (dictionaries_of b meta [] (map file_block xs) ≡ Ok d) × ShowsCells d (shown_in m))
  pub err : IfErr result (λ e. Refuses e (refusals (dictionaries_given b meta [] xs)))
