-- The table of a log as a stream: what is put of it, and why no more. (Arrow Columnar Format, "IPC Streaming Format".)
use Rattle.std.specs.Prelude.{◌≡◌, ◌⊎◌, ℕ, List, [], take, slice_get, ⊤, Option, Some, None, Result, Ok, Err}
use Rattle.std.specs.Io.KnownBytes.{Appends, Keeps}
use Rattle.arrow_spec.specs.declared.error.IpcError.{IpcError}
use Rattle.arrow_spec.specs.declared.error.IpcError.TheVariants as errors
use Rattle.arrow_spec.specs.Features.{chosen_floats, floats_in}
use Rattle.arrow_spec.specs.Files.{ArrowTable, TableBatch}
use Rattle.arrow_spec.specs.Readings.{IsAmong}
use Rattle.arrow_spec.specs.Streams.{closed, stream_table, unended}
use Rattle.arrow_types.specs.Schemas.{Keyed, fields_in}
use Rattle.arrow_arrays.specs.Batches.{Batch}
use Rattle.ipc_bodies.specs.Encodings.{text_of}
use Rattle.ipc_bodies.specs.Puts.{Moved, PutsPart}
use Rattle.ipc_bodies.specs.declared.encoding.Encoding.{Encoding}
use Rattle.ipc_io.specs.Outside.{AppendsPrefix, Rose}
use Rattle.ipc_log_disk.specs.Below.{IsOfDisk}
use Rattle.ipc_concat.specs.Below.{IsNoStart, RefusesChunk, Sending, StreamPairs, cells_of, found_before, IsWritten, table_with, StreamCore, IsOfPut, send_options}
use Rattle.ipc_record_log.specs.Logs.{invalid_log}
use Rattle.laws_logs.specs.Tables.{MeansLog, table_of}
use Rattle.ipc_tablelog.specs.Below.{WasSaid, log_fields}

-- ── what is put ──

-- a stream without pairs
abbrev pub no_pairs : StreamPairs
no_pairs = record { schema = None; message = None }

-- the text of one closed stream that means the table of a log's bytes was added
pub record AddsLog (b : List ℕ) (text : List ℕ → List ℕ) (old new : Option (List ℕ)) : Type 0 where
  pub table : ArrowTable
  pub is_log : MeansLog b table
  pub bytes : List ℕ
  pub is_closed : closed bytes
  pub means : stream_table bytes None ≡ Some table
  pub added : Appends old new (text bytes)

-- a table with some of its first batches alone
abbrev pub first_of : ArrowTable → ℕ → ArrowTable
first_of t count = record t { batches = take count t.batches }

-- whole messages of a stream, with nothing behind them, that mean a table with some of its first batches
pub record IsFront (t : ArrowTable) (count : ℕ) (bytes : List ℕ) : Type 0 where
  pub not_ended : unended bytes
  pub means : stream_table bytes None ≡ Some (first_of t count)

-- the stream of a table, or a front of it
abbrev pub IsPiece : ArrowTable → List ℕ → Type 0
IsPiece t bytes = (closed bytes × (stream_table bytes None ≡ Some t)) ⊎ ((count : ℕ) × IsFront t count bytes)

-- ── why no more ──

-- the message of the schema is too large
pub record SchemaIsLarge (t : ArrowTable) : Type 0 where
  pub schema : List Keyed
  pub said : WasSaid schema
  pub fields : t.fields ≡ log_fields schema
  pub large : IsNoStart errors.TooLarge send_options schema None no_pairs

-- behind some of the first batches a message of the next one, or of what of its dictionaries was not sent yet, is too large
pub record BatchIsLarge (t : ArrowTable) (count : ℕ) : Type 0 where
  pub writer : StreamCore
  pub options : writer.options ≡ send_options
  pub bytes : List ℕ
  pub written : IsWritten no_pairs writer bytes (take count t.batches)
  pub batch : Batch
  pub next : slice_get t.batches count ≡ Some (cells_of batch)
  pub sending : Sending
  pub found : found_before writer batch ≡ Ok sending
  pub large : RefusesChunk errors.TooLarge writer.options sending.sent batch

-- the schema is refused: a kind of it is never read, or its message is too large
abbrev pub RefusesSchema : IpcError → ArrowTable → Type 0
RefusesSchema e t = IsAmong (chosen_floats None t.fields 0) e ⊎ ((e ≡ errors.TooLarge) × SchemaIsLarge t)

-- a read failed, or memory was wanted
abbrev pub IsOfRead : IpcError → Type 0
IsOfRead errors.ReadFault = ⊤
IsOfRead errors.Memory = ⊤
IsOfRead e = ⊥

-- or a sync failed
abbrev pub IsOfOpening : IpcError → Type 0
IsOfOpening errors.WriteFault = ⊤
IsOfOpening e = IsOfRead e

-- What a refusal added, and why: nothing, until the schema was put; behind that whole messages of the first batches; and where a put failed, or
-- wanted memory, a part of a stream. A device's fault and want of memory come anywhere.
pub data AddsPart (e : IpcError) (b : List ℕ) (text : List ℕ → List ℕ) (old new : Option (List ℕ)) (wants wants' : ℕ) : Type 0 where
  by_device : IsOfOpening e → Keeps old new → AddsPart e b text old new wants wants'
  no_log : e ≡ invalid_log → ((t : ArrowTable) → MeansLog b t → ⊥) → Keeps old new → AddsPart e b text old new wants wants'
  at_schema : {t : ArrowTable} → MeansLog b t → RefusesSchema e t → Keeps old new → AddsPart e b text old new wants wants'
  behind : {t : ArrowTable} {count : ℕ} {bytes : List ℕ} → MeansLog b t → IsFront t count bytes → Appends old new (text bytes) → IsOfRead e ⊎ ((e ≡ errors.TooLarge) × BatchIsLarge t count) → AddsPart e b text old new wants wants'
  in_put : {t : ArrowTable} {bytes : List ℕ} → MeansLog b t → IsPiece t bytes → IsOfPut e wants wants' → AppendsPrefix old new (text bytes) → AddsPart e b text old new wants wants'

-- a log whose fields can be read
abbrev pub IsReadable : List ℕ → Type 0
IsReadable b = (t : ArrowTable) × MeansLog b t × (chosen_floats None t.fields 0 ≡ [])

-- the only refusals of such a log where no device failed
abbrev pub IsSmallRefusal : IpcError → Type 0
IsSmallRefusal e = (e ≡ errors.Memory) ⊎ (e ≡ errors.TooLarge)

-- why a log is not put, whatever its bytes are: a count of the disk rose, or of the sink; never for a state, or for what no log brings about
abbrev pub PutCause : IpcError → ℕ → ℕ → ℕ → ℕ → Type 0
PutCause errors.ReadFault reads reads' writes writes' = Rose reads reads'
PutCause errors.WriteFault reads reads' writes writes' = Rose reads reads' ⊎ Rose writes writes'
PutCause errors.State reads reads' writes writes' = ⊥
PutCause errors.SchemaMismatch reads reads' writes writes' = ⊥
PutCause (errors.Projection index) reads reads' writes writes' = ⊥
PutCause (errors.DictionaryReplaced id) reads reads' writes writes' = ⊥
PutCause errors.NotRepresentable reads reads' writes writes' = ⊥
PutCause e reads reads' writes writes' = ⊤

-- the disk tells the same bytes, where its sync did not fail
abbrev pub KeepsBytes : {T : Type 0} → Result T IpcError → Option (List ℕ) → Option (List ℕ) → ℕ → ℕ → ℕ → ℕ → Type 0
KeepsBytes (Ok x) old new faults faults' wants wants' = new ≡ old
KeepsBytes (Err e) old new faults faults' wants wants' = IsOfDisk e faults faults' wants wants' ⊎ (new ≡ old)

-- ── step by step ──

-- of some batches the stream was put so far
pub record HasPut (encoding : Encoding) (before now : Option (List ℕ)) (w : StreamCore) (xs : List TableBatch) : Type 0 where
  pub bytes : List ℕ
  pub written : IsWritten no_pairs w bytes xs
  pub added : Appends before now (text_of encoding bytes)

-- the stream of a writer means a table, where its batches are the table's
abbrev pub IsStreamOf : ArrowTable → StreamCore → Type 0
IsStreamOf t w = table_with no_pairs w t.batches ≡ t

-- the stream of a table was put, and ended
pub record EndsPut (t : ArrowTable) (encoding : Encoding) (before now : Option (List ℕ)) : Type 0 where
  pub bytes : List ℕ
  pub is_closed : closed bytes
  pub means : stream_table bytes None ≡ Some t
  pub added : Appends before now (text_of encoding bytes)

-- a stream of a schema is not begun
pub data NotBegun (e : IpcError) (s : List Keyed) (encoding : Encoding) (m : Moved) : Type 0 where
  before_put : (e ≡ errors.Memory) ⊎ (IsAmong (floats_in (fields_in s)) e ⊎ ((e ≡ errors.TooLarge) × IsNoStart errors.TooLarge send_options s None no_pairs)) → Keeps m.old m.new → NotBegun e s encoding m
  in_put : (bytes : List ℕ) → unended bytes → stream_table bytes None ≡ Some (table_of (log_fields s) []) → PutsPart m e (text_of encoding bytes) → NotBegun e s encoding m

-- behind whole messages no more is put of a table
pub data StopsPut (e : IpcError) (t : ArrowTable) (encoding : Encoding) (before now : Option (List ℕ)) (wants wants' : ℕ) : Type 0 where
  behind : {count : ℕ} {bytes : List ℕ} → IsFront t count bytes → Appends before now (text_of encoding bytes) → IsOfRead e ⊎ ((e ≡ errors.TooLarge) × BatchIsLarge t count) → StopsPut e t encoding before now wants wants'
  in_put : {bytes : List ℕ} → IsPiece t bytes → IsOfPut e wants wants' → AppendsPrefix before now (text_of encoding bytes) → StopsPut e t encoding before now wants wants'
