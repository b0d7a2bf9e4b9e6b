-- A file that was begun before and goes on. (Arrow Columnar Format, "IPC File Format".)
use Rattle.std.specs.Prelude.{◌≡◌, ℕ, List, false, Result, Ok, Err}
use Rattle.arrow_spec.specs.declared.error.IpcError.{IpcError}
use Rattle.ipc_fields.specs.IpcFields.{ids_of}
use Rattle.ipc_messages.specs.Below.{WriteOptions}
use Rattle.ipc_messages.specs.Schemas.{IsRefusedAs}
use Rattle.ipc_messages.specs.declared.state.WriterState.TheVariants.{Started}
use Rattle.ipc_file_writer.specs.Calls.{ending_of, file_ids}
use Rattle.ipc_file_writer.specs.declared.begun.BegunFile.{BegunFile}
use Rattle.ipc_file_writer.specs.declared.file.FileCore.{FileCore}

-- a writer goes on with a file at a place: it has the file's schema, ids, pairs and blocks, and holds what the file has of dictionaries
pub record GoesOn (asked : WriteOptions) (f : BegunFile) (place : ℕ) (c : FileCore) : Type 0 where
  pub options : c.options ≡ asked
  pub state : c.state ≡ Started
  pub schema : c.schema ≡ f.schema
  pub ids : file_ids c ≡ ids_of f.ipc_fields.items
  pub pairs : c.pairs ≡ record { schema = f.custom_schema_metadata; footer = f.custom_metadata }
  pub held : c.tracker.dictionaries ≡ f.dictionaries
  pub dictionaries : c.blocks.dictionaries ≡ f.dictionary_blocks
  pub records : c.blocks.records ≡ f.record_blocks
  pub end : c.blocks.end ≡ place
  pub unwritten : c.has_written ≡ false

-- a file may be ended as it stands, or the footer or its place is refused, or memory was wanted
abbrev pub MayEnd : Result (Unit {0}) IpcError → FileCore → Type 0
MayEnd (Ok u) c = (bytes : List ℕ) × (ending_of c ≡ Ok bytes)
MayEnd (Err e) c = IsRefusedAs e (ending_of c)
