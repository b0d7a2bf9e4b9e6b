-- A file of generated batches as it is written. (Arrow Columnar Format, "IPC File Format".)
use Rattle.std.specs.Prelude.{◌≡◌, ◌⊎◌, ⊤, ℕ, List, false, Option, Some, None, pos}
use Rattle.arrow_spec.specs.declared.error.IpcError.{IpcError}
use Rattle.arrow_spec.specs.declared.error.IpcError.TheVariants.{Memory, TooLarge}
use Rattle.arrow_spec.specs.Files.{TableBatch}
use Rattle.arrow_arrays.specs.Parts.{Forest, none, also}
use Rattle.ipc_fields.specs.IpcFields.{Ids, ids, no_fields}
use Rattle.ipc_file_writer.specs.Below.{Started, held_by, WriteOptions}
use Rattle.ipc_file_writer.specs.Calls.{file_ids, file_schema}
use Rattle.ipc_file_writer.specs.Written.{IsFile, cells_by}
use Rattle.ipc_file_writer.specs.declared.file.FileCore.{FileCore}
use Rattle.ipc_generate.specs.Arrays.{dictionary_values, generated_schema}

-- memory was wanted, or a message or its place in the file is too large
abbrev pub IsSmall : IpcError → Type 0
IsSmall e = (e ≡ Memory) ⊎ (e ≡ TooLarge)

-- the ids count from 0
abbrev pub generated_ids : Ids
generated_ids = ids None no_fields (ids None no_fields (ids (Some (pos 0)) no_fields (ids None (ids None no_fields no_fields) no_fields)))

abbrev pub generate_options : WriteOptions
generate_options = record { compression = None; metadata_limit = 2147483647; deltas = false }

-- nothing is held, or the one dictionary
abbrev pub HoldsNoOther : Option Forest → Type 0
HoldsNoOther None = ⊤
HoldsNoOther (Some parts) = parts ≡ also dictionary_values none

-- a writer whose file was begun, of the generated schema
pub record IsReady (c : FileCore) : Type 0 where
  pub options : c.options ≡ generate_options
  pub state : c.state ≡ Started
  pub schema : file_schema c ≡ generated_schema
  pub ids : file_ids c ≡ generated_ids
  pub pairs : c.pairs ≡ record { schema = None; footer = None }
  pub held : HoldsNoOther (held_by c.tracker (pos 0))

-- the bytes that it has put mean these batches
abbrev pub HasWritten : FileCore → List ℕ → List TableBatch → Type 0
HasWritten c bytes bs = IsFile (cells_by c) c bytes bs
