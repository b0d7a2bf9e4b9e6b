-- What walking a file's blocks, and writing what they give to a stream, comes to. (Arrow Columnar Format, "IPC File Format", "IPC Streaming Format".)
use Rattle.std.specs.Prelude.{◌≡◌, ℕ, suc, ◌+◌, ◌*◌, ◌^◌, ◌≤◌, ℤ, List, [], ◌∷◌, ◌++◌, length, sum_by, true, false, Option, None, Some, Ok}
use Rattle.std.specs.Io.KnownBytes.{Appends, Keeps}
use Rattle.arrow_spec.specs.declared.error.IpcError.{IpcError}
use Rattle.arrow_spec.specs.declared.error.IpcError.TheVariants as errors
use Rattle.arrow_spec.specs.Files.{TableBatch, to_read, to_send}
use Rattle.arrow_spec.specs.Readings.{Refuses, refusals}
use Rattle.arrow_spec.specs.Streams.{closed, stream_table, unended}
use Rattle.arrow_types.specs.Schemas.{Keyed, fields_in}
use Rattle.ipc_fields.specs.IpcFields.{ids_of, metadata_of}
use Rattle.ipc_bodies.specs.Encodings.{text_of}
use Rattle.ipc_bodies.specs.declared.encoding.Encoding.{Encoding}
use Rattle.ipc_io.specs.Outside.{AppendsPrefix, Rose}
use Rattle.ipc_reader.specs.Below.{FileMetadata, WriteOptions, file_custom, meta_view}
use Rattle.ipc_stream_writer.specs.Below.{New, Started, StreamPairs, all_representable, held_by, options_of}
use Rattle.ipc_stream_writer.specs.Written.{IsWritten}
use Rattle.ipc_stream_writer.specs.declared.stream.StreamCore.{StreamCore}
use Rattle.laws_sent.specs.Below.{IsNumbered, plain_fields}
use Rattle.laws_sent.specs.DictionaryLaws.{SendsNoMore}
use Rattle.laws_walk.specs.Places.{KeptSoFar, Place, Walked, Walking, all_read, fields_walked, meta_walked, none_yet, table_sent}
use Rattle.laws_walk.specs.Walks.{walk_reading}

-- ── writers ──

-- how a stream is written: what goes on of a dictionary is sent as a delta
abbrev pub send_options : WriteOptions
send_options = record { compression = None; metadata_limit = 2147483647; deltas = true }

-- a writer of a stream of a schema in an encoding, which was begun
pub record IsWriter (s : List Keyed) (encoded : Encoding) (w : StreamCore) : Type 0 where
  pub state : w.state ≡ Started
  pub encoding : w.encoding ≡ encoded
  pub options : w.options ≡ send_options
  pub schema : w.schema ≡ s
  pub ids : IsNumbered (fields_in s) (ids_of w.fields.items)
  pub plain : plain_fields (fields_in s) ≡ fields_in s
  pub representable : all_representable (fields_in s) ≡ true
  pub tracker : options_of w.tracker ≡ record { cannot_replace = false; deltas = true }

-- a writer that has written nothing, with the pairs of a file's schema and of its footer
pub record IsNewWriter (file : FileMetadata) (encoded : Encoding) (w : StreamCore) : Type 0 where
  pub state : w.state ≡ New
  pub encoding : w.encoding ≡ encoded
  pub options : w.options ≡ send_options
  pub own : metadata_of w.pairs.schema ≡ (meta_view file).schema.metadata
  pub custom : metadata_of w.pairs.message ≡ file_custom file
  pub held : (id : ℤ) → held_by w.tracker id ≡ None
  pub tracker : options_of w.tracker ≡ record { cannot_replace = false; deltas = true }

-- ── what was sent so far ──

-- a writer knows of the dictionaries nothing before the first batch, and behind it all that is to be sent of them
abbrev pub Knows : (x : Walking) (p : Place) → KeptSoFar x p → StreamCore → List TableBatch → Type 0
Knows x p kept w [] = (id : ℤ) → held_by w.tracker id ≡ None
Knows x p (none_yet none not_read) w (b ∷ bs) = ⊥
Knows x p (all_read r some) w (b ∷ bs) = SendsNoMore (fields_walked x) r.dictionaries r.parts (ids_of w.fields.items) (held_by w.tracker)

-- so many bytes of the stream were put, which mean the batches so far
pub record SentSoFar (x : Walking) (p : Place) (w : StreamCore) (now : Option (List ℕ)) (bytes : List ℕ) (bs : List TableBatch) : Type 0 where
  pub pairs : StreamPairs
  pub own : metadata_of pairs.schema ≡ (meta_walked x).schema.metadata
  pub custom : metadata_of pairs.message ≡ file_custom x.file
  pub written : IsWritten pairs w bytes bs
  pub added : Appends x.start now (text_of x.encoding bytes)
  pub walked : Walked to_send x p bs
  pub knows : Knows x p walked.kept w bs
  pub first : bs ≡ [] → length bytes ≤ 2 ^ 32
  pub few : length bytes ≤ 2 ^ 127 + 2 ^ 98 + p.block * (2 ^ 63 + 2 ^ 33)

-- so many batches of so many rows were sent
pub record SentRows (x : Walking) (p : Place) (w : StreamCore) (now : Option (List ℕ)) (batches rows : ℕ) : Type 0 where
  pub bytes : List ℕ
  pub sent : List TableBatch
  pub so_far : SentSoFar x p w now bytes sent
  pub batches_are : batches ≡ length sent
  pub rows_are : rows ≡ sum_by (λ (b : TableBatch). b.rows) sent

-- ── refusals ──

-- an unended stream, with nothing behind its messages, that means the batches of a file's first n blocks
pub record IsFront (x : Walking) (n : ℕ) (bytes : List ℕ) (bs : List TableBatch) : Type 0 where
  pub within : n ≤ length (meta_walked x).blocks
  pub not_ended : unended bytes
  pub stream : stream_table bytes None ≡ Some (table_sent x bs)
  pub file : walk_reading to_read x.bytes x.walk (Some n) ≡ Ok (table_sent x bs)

-- a whole stream, closed, that means the batches of all blocks
pub record IsWhole (x : Walking) (bytes : List ℕ) (bs : List TableBatch) : Type 0 where
  pub is_closed : closed bytes
  pub stream : stream_table bytes None ≡ Some (table_sent x bs)
  pub file : walk_reading to_read x.bytes x.walk None ≡ Ok (table_sent x bs)

-- the first n blocks and the one behind them are refused so where they are to be sent
abbrev pub StopsBehind : Walking → ℕ → IpcError → Type 0
StopsBehind x n e = Refuses e (refusals (walk_reading to_send x.bytes x.walk (Some (suc n))))

-- a device failed, which no call answers that puts nothing
abbrev pub IsOfSink : IpcError → Type 0
IsOfSink errors.WriteFault = Unit {0}
IsOfSink e = ⊥

-- a put failed, or wanted memory, which a sink counts
abbrev pub IsOfPut : IpcError → ℕ → ℕ → Type 0
IsOfPut errors.WriteFault wants wants' = Unit {0}
IsOfPut errors.Memory wants wants' = Rose wants wants'
IsOfPut e wants wants' = ⊥

-- What a refusal leaves: nothing more than before; a front that stops at what is refused; or, where a put failed, a part of a front or of the whole.
pub data LeavesPart (e : IpcError) (x : Walking) (new : Option (List ℕ)) (wants wants' : ℕ) : Type 0 where
  before : (IsOfSink e → ⊥) → Keeps x.start new → LeavesPart e x new wants wants'
  behind : {n : ℕ} {bytes : List ℕ} {bs : List TableBatch} → (IsOfSink e → ⊥) → IsFront x n bytes bs → Appends x.start new (text_of x.encoding bytes) → StopsBehind x n e
      → LeavesPart e x new wants wants'
  in_front : {n : ℕ} {bytes : List ℕ} {bs : List TableBatch} → IsOfPut e wants wants' → IsFront x n bytes bs → AppendsPrefix x.start new (text_of x.encoding bytes)
      → LeavesPart e x new wants wants'
  in_whole : {bytes : List ℕ} {bs : List TableBatch} → IsOfPut e wants wants' → IsWhole x bytes bs → AppendsPrefix x.start new (text_of x.encoding bytes)
      → LeavesPart e x new wants wants'

-- what a refusal says of the bytes of a file, and what was added then
pub record Refused (e : IpcError) (x : Walking) (new : Option (List ℕ)) (wants wants' : ℕ) : Type 0 where
  pub refused : Refuses e (refusals (walk_reading to_send x.bytes x.walk None))
  pub part : LeavesPart e x new wants wants'

-- why sending is refused, whatever the source tells
abbrev pub SendCause : IpcError → ℕ → ℕ → ℕ → ℕ → Type 0
SendCause errors.ReadFault reads reads' writes writes' = Rose reads reads'
SendCause errors.WriteFault reads reads' writes writes' = Rose writes writes'
SendCause errors.State reads reads' writes writes' = ⊥
SendCause errors.SchemaMismatch reads reads' writes writes' = ⊥
SendCause (errors.DictionaryReplaced id) reads reads' writes writes' = ⊥
SendCause errors.NotRepresentable reads reads' writes writes' = ⊥
SendCause e reads reads' writes writes' = Unit {0}

-- ── one batch ──

-- the next batch was given and written
pub record SendsOne (x : Walking) (p' : Place) (w' : StreamCore) (now' : Option (List ℕ)) (bytes : List ℕ) (bs : List TableBatch) (rows : ℕ) : Type 0 where
  pub batch : TableBatch
  pub height : rows ≡ batch.rows
  pub more : List ℕ
  pub so_far : SentSoFar x p' w' now' (bytes ++ more) (bs ++ batch ∷ [])
