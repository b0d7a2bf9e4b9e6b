-- The front of a stream of several files, and why nothing stands behind it.
use Rattle.std.specs.Prelude.{◌≡◌, ◌⊎◌, ℕ, suc, List, ◌∷◌, ◌++◌, None, Some, Ok, length}
use Rattle.arrow_spec.specs.declared.error.IpcError.{IpcError}
use Rattle.arrow_spec.specs.declared.error.IpcError.TheVariants.{TooLarge}
use Rattle.arrow_spec.specs.Files.{ArrowTable, TableBatch, «all», file_reading, to_read}
use Rattle.arrow_spec.specs.Readings.{Refuses, refusals}
use Rattle.arrow_spec.specs.Streams.{stream_table, unended}
use Rattle.arrow_arrays.specs.Batches.{Batch}
use Rattle.laws_walk.specs.Below.{RefusesChunk, StreamPairs, cells_of, found_before, IsWritten, StreamCore}
use Rattle.ipc_dictionaries.specs.NewDictionaries.{Sending}
use Rattle.laws_walk.specs.Sends.{send_options}
use Rattle.ipc_concat.specs.Tables.{AreTables, HaveFieldsOf, and_batch, joined_to}

-- An unended stream, with nothing behind its messages: it means the tables of some files and the first batches of the next one.
pub record IsFront (bs : List (List ℕ)) (x : List ℕ) : Type 0 where
  pub before : List (List ℕ)
  pub file : List ℕ
  pub behind : List (List ℕ)
  pub are : bs ≡ before ++ file ∷ behind
  pub tables : List ArrowTable
  pub means : AreTables before tables
  pub part : ArrowTable
  pub read : file_reading to_read file «all» (Some (length part.batches)) ≡ Ok part
  pub same : HaveFieldsOf part tables
  pub not_ended : unended x
  pub stream : stream_table x None ≡ Some (joined_to tables part)

-- The block behind it was read, and a message of its batch, or of what of the batch's dictionaries was not sent yet, is too large.
pub record IsTooLarge {bs : List (List ℕ)} {x : List ℕ} (f : IsFront bs x) : Type 0 where
  pub next : TableBatch
  pub read : file_reading to_read f.file «all» (Some (suc (length f.part.batches))) ≡ Ok (and_batch f.part next)
  pub pairs : StreamPairs
  pub writer : StreamCore
  pub options : writer.options ≡ send_options
  pub written : IsWritten pairs writer x (joined_to f.tables f.part).batches
  pub batch : Batch
  pub cells : cells_of batch ≡ next
  pub sending : Sending
  pub found : found_before writer batch ≡ Ok sending
  pub large : RefusesChunk TooLarge writer.options sending.sent batch

-- The block behind it, or before the first one the dictionaries, are refused, as their file is; or a message is too large.
abbrev pub StopsBehind : IpcError → {bs : List (List ℕ)} {x : List ℕ} → IsFront bs x → Type 0
StopsBehind e f = (Refuses e (refusals (file_reading to_read f.file «all» None)) × Refuses e (refusals (file_reading to_read f.file «all» (Some (suc (length f.part.batches))))))
    ⊎ ((e ≡ TooLarge) × IsTooLarge f)
