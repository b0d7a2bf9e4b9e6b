-- What is read of a record. (Arrow Columnar Format, "IPC Streaming Format".)
use Rattle.std.specs.Prelude.{◌≡◌, ◌⊎◌, ℕ, List}
use Rattle.arrow_spec.specs.declared.error.IpcError.{IpcError}
use Rattle.arrow_spec.specs.declared.error.IpcError.TheVariants.{Memory}
use Rattle.arrow_spec.specs.Files.{TableBatch}
use Rattle.arrow_spec.specs.Kinds.{Fields}
use Rattle.ipc_append.specs.Wholes.{table_read}
use Rattle.ipc_append.specs.declared.stream.WholeStream.{WholeStream}
use Rattle.ipc_record_log.specs.Logs.{invalid_log}
use Rattle.laws_logs.specs.Tables.{IsRecordOf}

-- bytes are no record, whatever its fields and batches
abbrev pub IsNoRecord : List ℕ → Type 0
IsNoRecord b = (fields : Fields) (xs : List TableBatch) → IsRecordOf fields xs b → ⊥

-- bytes are the record of what was read
abbrev pub IsRecordRead : List ℕ → WholeStream → Type 0
IsRecordRead b s = IsRecordOf (table_read s).fields (table_read s).batches b

-- why a record is not read: memory was wanted, or the bytes are none
abbrev pub Unread : IpcError → List ℕ → Type 0
Unread e b = (e ≡ Memory) ⊎ ((e ≡ invalid_log) × IsNoRecord b)
