-- A stream's batches at a log's end, and why they do not stand there. (Arrow Columnar Format, "IPC Streaming Format".)
use Rattle.std.specs.Prelude.{◌≡◌, ◌⊎◌, ℕ, ◌+◌, ◌<◌, List, [], length, map, take, slice_get, ⊤, Option, None, Some, IfSome}
use Rattle.std.specs.Rc.{rc_value}
use Rattle.arrow_spec.specs.declared.error.IpcError.{IpcError}
use Rattle.arrow_spec.specs.declared.error.IpcError.TheVariants as errors
use Rattle.arrow_spec.specs.Files.{ArrowTable, TableBatch}
use Rattle.arrow_spec.specs.Kinds.{Fields}
use Rattle.arrow_types.specs.Schemas.{Keyed}
use Rattle.arrow_arrays.specs.Batches.{Batch}
use Rattle.ipc_tablelog.specs.Below.{table_read, WholeStream, log_fields, RecordCause}
use Rattle.ipc_io.specs.Outside.{Rose}
use Rattle.ipc_log_disk.specs.Crashes.{Images}
use Rattle.ipc_record_log.specs.Logs.{invalid_log}
use Rattle.ipc_concat.specs.Below.{cells_of}
use Rattle.laws_logs.specs.Tables.{MeansLog, table_of, with_batches}
use Rattle.ipc_tablelog.specs.TableLogs.{IsTableOf}

-- the fields and the batches of a stream
abbrev pub fields_of : WholeStream → Fields
fields_of s = (table_read s).fields

abbrev pub batches_of : WholeStream → List TableBatch
batches_of s = (table_read s).batches

-- its schema
abbrev pub schema_of : WholeStream → List Keyed
schema_of s = rc_value s.metadata.schema

-- ── what stands there ──

-- the table before: that of a log without batches, of these fields, where there were no bytes; else what the bytes mean, which has these fields
abbrev pub IsBefore : List ℕ → Fields → ArrowTable → Type 0
IsBefore b fields t = ((b ≡ []) × (t ≡ table_of fields [])) ⊎ (MeansLog b t × (t.fields ≡ fields))

-- the bytes, which are told, mean the table before with these batches behind its own, and so does each image that a crash now may leave
pub record HasAppended (b : List ℕ) (fields : Fields) (xs : List TableBatch) (content : Option (List ℕ)) (images : Images) : Type 0 where
  pub table : ArrowTable
  pub before : IsBefore b fields table
  pub now : List ℕ
  pub told : content ≡ Some now
  pub means : MeansLog now (with_batches table xs)
  pub durable : (c : List ℕ) → images c → MeansLog c (with_batches table xs)

-- what stands there, where it is told, means the table with so many of the batches, or with one more
abbrev pub MeansNext : ArrowTable → List TableBatch → ℕ → Option (List ℕ) → Type 0
MeansNext t xs count content = IfSome content (λ c. MeansLog c (with_batches t (take count xs)) ⊎ MeansLog c (with_batches t (take (count + 1) xs)))

-- ── why not ──

-- what a record may be refused for: want of memory, a message that is too large, a kind that is never read, too many dictionaries
abbrev pub IsOfRecord : IpcError → Type 0
IsOfRecord errors.Memory = ⊤
IsOfRecord errors.TooLarge = ⊤
IsOfRecord (errors.Unsupported feature) = ⊤
IsOfRecord (errors.TooMany counted) = ⊤
IsOfRecord e = ⊥

-- a disk failed in being written or synced, or wanted memory
abbrev pub IsOfWrite : IpcError → ℕ → ℕ → Type 0
IsOfWrite errors.WriteFault faults faults' = Rose faults faults'
IsOfWrite errors.Memory faults faults' = ⊤
IsOfWrite e faults faults' = ⊥

-- Why there is no log to append to, before anything is written: it cannot be read, or its bytes are none, or none is begun where there are no bytes.
pub data NoLog (e : IpcError) (schema : List Keyed) (content : Option (List ℕ)) (faults faults' : ℕ) : Type 0 where
  no_memory : e ≡ errors.Memory → NoLog e schema content faults faults'
  not_read : e ≡ errors.ReadFault → Rose faults faults' → NoLog e schema content faults faults'
  no_log : e ≡ invalid_log → (content ≡ Some [] → ⊥) → ((b : List ℕ) (t : ArrowTable) → content ≡ Some b → MeansLog b t → ⊥) → NoLog e schema content faults faults'
  not_begun : ((b : List ℕ) → content ≡ Some b → b ≡ []) → RecordCause e schema None → IsOfRecord e → NoLog e schema content faults faults'

-- the step that is refused, and what that left
pub data StopsAppend (e : IpcError) (stream : WholeStream) (old new : Option (List ℕ)) (faults faults' : ℕ) : Type 0 where
  -- there is no log: nothing was written
  at_log : NoLog e (schema_of stream) old faults faults' → new ≡ old → StopsAppend e stream old new faults faults'
  -- it could not be synced, or begun
  in_log : IsOfWrite e faults faults' → StopsAppend e stream old new faults faults'
  -- it has other fields
  at_fields : e ≡ errors.SchemaMismatch → ((b : List ℕ) (t : ArrowTable) → old ≡ Some b → MeansLog b t → t.fields ≡ fields_of stream → ⊥) → new ≡ old → StopsAppend e stream old new faults faults'
  -- some of the first batches were appended, and the next one is refused
  at_batch : {schema : List Keyed} (count : ℕ) {x : Batch} → log_fields schema ≡ fields_of stream → slice_get stream.batches.items count ≡ Some x → RecordCause e schema (Some x) → IsOfRecord e
      → ((b : List ℕ) → old ≡ Some b → (t : ArrowTable) × IsBefore b (fields_of stream) t × IfSome new (λ c. MeansLog c (with_batches t (take count (batches_of stream))))) → StopsAppend e stream old new faults faults'
  -- or the disk failed in appending it
  in_batch : (count : ℕ) → count < length stream.batches.items → IsOfWrite e faults faults'
      → ((b : List ℕ) → old ≡ Some b → (t : ArrowTable) × IsBefore b (fields_of stream) t × MeansNext t (batches_of stream) count new) → StopsAppend e stream old new faults faults'

-- ── step by step ──

-- the table before, on which a log of a schema stands
abbrev pub IsBegun : List ℕ → List Keyed → ArrowTable → Type 0
IsBegun b s t = ((b ≡ []) × (t ≡ table_of (log_fields s) [])) ⊎ MeansLog b t

-- there is no log, or the disk failed
abbrev pub LogRefused : IpcError → List Keyed → Option (List ℕ) → Option (List ℕ) → ℕ → ℕ → Type 0
LogRefused e schema old new faults faults' = (NoLog e schema old faults faults' × (new ≡ old)) ⊎ IsOfWrite e faults faults'

-- some of the first of several batches were appended to a log of a schema, and the next one is refused, or the disk failed in appending it
pub data StopsBatches (e : IpcError) (s : List Keyed) (bs : List Batch) (old new : Option (List ℕ)) (faults faults' : ℕ) : Type 0 where
  at_batch : (count : ℕ) {x : Batch} → slice_get bs count ≡ Some x → RecordCause e s (Some x) → IsOfRecord e
      → ((t : ArrowTable) → IsTableOf old s t → IsTableOf new s (with_batches t (take count (map cells_of bs)))) → StopsBatches e s bs old new faults faults'
  in_batch : (count : ℕ) → count < length bs → IsOfWrite e faults faults' → ((t : ArrowTable) → IsTableOf old s t → MeansNext t (map cells_of bs) count new) → StopsBatches e s bs old new faults faults'

-- the log has other fields than a stream, or its batches are not all appended
abbrev pub StopsEach : IpcError → WholeStream → List Keyed → Option (List ℕ) → Option (List ℕ) → ℕ → ℕ → Type 0
StopsEach e stream s old new faults faults' = ((e ≡ errors.SchemaMismatch) × (log_fields s ≡ fields_of stream → ⊥) × (new ≡ old))
    ⊎ ((log_fields s ≡ fields_of stream) × StopsBatches e s stream.batches.items old new faults faults')
