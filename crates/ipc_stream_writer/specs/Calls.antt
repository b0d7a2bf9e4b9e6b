-- What the calls of a writer do to it, and what they put: the bytes of a stream, as they are encoded. (Arrow Columnar Format, "IPC Streaming Format".)
use Rattle.std.specs.Prelude.{◌≡◌, ◌⊎◌, ◌^◌, ◌<◌, ◌++◌, ◌∷◌, [], ◌+◌, ℤ, List, Bool, true, false, Option, Some, None, Result, Ok, Err, ℕ, String, length}
use Rattle.std.specs.BTreeMap.{BTreeMap}
use Rattle.std.specs.Io.KnownBytes.{Appends}
use Rattle.std.specs.declared.alloc.Global.{Global}
use Rattle.arrow_spec.specs.declared.error.IpcError.{IpcError}
use Rattle.arrow_spec.specs.declared.error.IpcError.TheVariants.{Memory, SchemaMismatch, State, WriteFault}
use Rattle.arrow_spec.specs.Files.{TableBatch}
use Rattle.arrow_spec.specs.Regular.{regular}
use Rattle.arrow_spec.specs.Streams.{end_mark}
use Rattle.arrow_types.specs.Schemas.{Keyed, fields_in}
use Rattle.ipc_messages.specs.Below.{Batch, forest, Sending, ToSend, IsKept, held_by, options_of, WriteOptions}
use Rattle.ipc_fields.specs.IpcFields.{Ids, fields_with, ids_of, metadata_of}
use Rattle.ipc_bodies.specs.Puts.{Moved, NoneFalls, PutsPart}
use Rattle.ipc_bodies.specs.declared.encoding.Encoding.{Encoding}
use Rattle.ipc_bodies.specs.declared.encoding.Encoding.TheVariants.{Bytes}
use Rattle.ipc_messages.specs.Chunks.{MayBeSent, RefusesChunk, Stops, found}
use Rattle.ipc_messages.specs.declared.state.WriterState.TheVariants.{New, Started, Finished, Failed}
use Rattle.ipc_stream_writer.specs.declared.stream.StreamCore.{StreamCore}
use Rattle.ipc_messages.specs.Batches.{Suits}
use Rattle.ipc_messages.specs.Fields.{AreIdsFor}
use Rattle.ipc_messages.specs.Messages.{chunk_text}
use Rattle.ipc_messages.specs.Puts.{Grew, Untouched, counted}
use Rattle.ipc_messages.specs.Schemas.{IsNoStart, SchemaIsSaid, stream_text}
use Rattle.ipc_messages.specs.States.{is_new, is_started}
use Rattle.ipc_messages.specs.declared.pairs.StreamPairs.{StreamPairs}
use Rattle.laws_writers.specs.Written.{cells_of}
use Rattle.ipc_stream_writer.specs.Written.{IsEnded, IsWritten}

-- a writer that has written nothing, of some options and an encoding
pub record IsFresh (asked : WriteOptions) (chosen : Encoding) (c : StreamCore) : Type 0 where
  pub options : c.options ≡ asked
  pub encoding : c.encoding ≡ chosen
  pub state : c.state ≡ New
  pub pairs : c.pairs ≡ record { schema = None; message = None }
  pub held : (id : ℤ) → held_by c.tracker id ≡ None
  pub replaces : c.tracker.cannot_replace ≡ false
  pub count : c.byte_count ≡ 0

-- the options, the encoding, the schema with its IPC fields, and the pairs for it stay
pub record Stays (old new : StreamCore) : Type 0 where
  pub options : new.options ≡ old.options
  pub encoding : new.encoding ≡ old.encoding
  pub schema : new.schema ≡ old.schema
  pub fields : new.fields ≡ old.fields
  pub pairs : new.pairs ≡ old.pairs
  pub tracker : options_of new.tracker ≡ options_of old.tracker

-- a call was refused: it leaves the writer, what it holds, and the sink
pub record LeavesAll (m : Moved) (old new : StreamCore) : Type 0 where
  pub untouched : Untouched m
  pub state : new.state ≡ old.state
  pub held : IsKept (held_by old.tracker) (held_by new.tracker)
  pub count : new.byte_count ≡ old.byte_count
  pub stays : Stays old new
  -- the bytes mean what they meant
  pub written : (pairs : StreamPairs) (x : List ℕ) (bs : List TableBatch) → IsWritten pairs old x bs → IsWritten pairs new x bs

-- a put failed, or wanted memory behind a byte that was put: a part of what was to be put is there, the dictionaries of it are not held, and the
-- writer has failed
pub record HasFailed (encode : List ℕ → List ℕ) (m : Moved) (e : IpcError) (bytes : List ℕ) (old new : StreamCore) : Type 0 where
  pub put : PutsPart m e (encode bytes)
  pub behind : e ≡ Memory → Grew m.old m.new
  pub state : new.state ≡ Failed
  pub held : IsKept (held_by old.tracker) (held_by new.tracker)
  pub count : new.byte_count ≡ old.byte_count
  pub stays : Stays old new

-- ── pairs ──

-- the pairs of the schema's message were given, before anything was put
pub record HasMessagePairs (old new : StreamCore) (given : BTreeMap (String Global) (String Global)) : Type 0 where
  pub new_before : is_new old.state ≡ true
  pub pairs : new.pairs ≡ record { schema = old.pairs.schema; message = Some given }
  pub state : new.state ≡ old.state
  pub options : new.options ≡ old.options
  pub encoding : new.encoding ≡ old.encoding
  pub schema : new.schema ≡ old.schema
  pub fields : new.fields ≡ old.fields
  pub tracker : new.tracker ≡ old.tracker
  pub count : new.byte_count ≡ old.byte_count

-- or something was put before, and the writer is left
abbrev pub SetsMessagePairs : Result (Unit {0}) IpcError → StreamCore → StreamCore → BTreeMap (String Global) (String Global) → Type 0
SetsMessagePairs (Ok u) old new given = HasMessagePairs old new given
SetsMessagePairs (Err e) old new given = (e ≡ State) × (is_new old.state ≡ false) × (new ≡ old)

-- ── begin ──

-- a stream was begun: the message of its schema was put
pub record HasBegun (encode : List ℕ → List ℕ) (m : Moved) (old new : StreamCore) (s : List Keyed) (given : Option Ids) : Type 0 where
  pub new_before : is_new old.state ≡ true
  pub state : new.state ≡ Started
  pub schema : new.schema ≡ s
  pub ids : AreIdsFor (fields_in s) given (ids_of new.fields.items)
  pub bytes : List ℕ
  pub text : stream_text old.options (fields_in s) (ids_of new.fields.items) old.pairs ≡ Ok bytes
  pub appended : Appends m.old m.new (encode bytes)
  pub counts : NoneFalls m
  pub options : new.options ≡ old.options
  pub encoding : new.encoding ≡ old.encoding
  pub pairs : new.pairs ≡ old.pairs
  pub tracker : new.tracker ≡ old.tracker
  pub count : new.byte_count ≡ counted (length bytes)
  -- the bytes mean a table without batches, where the schema may be said, which it may where it is regular
  pub said : SchemaIsSaid (fields_with (fields_in s) (ids_of new.fields.items)) (metadata_of old.pairs.schema) → IsWritten old.pairs new bytes []
  pub written : regular (fields_with (fields_in s) (ids_of new.fields.items)) (metadata_of old.pairs.schema) ≡ true → IsWritten old.pairs new bytes []

-- why none was: it was before, or memory was wanted, or the schema is refused
abbrev pub StartCause : IpcError → StreamCore → List Keyed → Option Ids → Type 0
StartCause e c s given =
    ((e ≡ State) × (is_new c.state ≡ false)) ⊎ ((is_new c.state ≡ true) × ((e ≡ Memory) ⊎ IsNoStart e c.options s given c.pairs))

-- a put of the schema's message failed
pub record StartFailed (encode : List ℕ → List ℕ) (m : Moved) (e : IpcError) (old new : StreamCore) (s : List Keyed) (given : Option Ids) : Type 0 where
  pub new_before : is_new old.state ≡ true
  pub below : Ids
  pub ids : AreIdsFor (fields_in s) given below
  pub bytes : List ℕ
  pub text : stream_text old.options (fields_in s) below old.pairs ≡ Ok bytes
  pub failed : HasFailed encode m e bytes old new
  -- bytes as they are go in one put
  pub whole : old.encoding ≡ Bytes → e ≡ WriteFault

abbrev pub Starts : (List ℕ → List ℕ) → Moved → Result (Unit {0}) IpcError → StreamCore → StreamCore → List Keyed → Option Ids → Type 0
Starts encode m (Ok u) old new s given = HasBegun encode m old new s given
Starts encode m (Err e) old new s given = (StartCause e old s given × LeavesAll m old new) ⊎ StartFailed encode m e old new s given

-- ── batches ──

-- a batch is one of a stream's
abbrev pub SuitsStream : StreamCore → Batch → Option Ids → Type 0
SuitsStream c b given = Suits c.schema (ids_of c.fields.items) b given

-- what of its dictionaries is to be sent before it
abbrev pub found_before : StreamCore → Batch → Result Sending IpcError
found_before c b = found c.tracker (forest b.arrays) (ids_of c.fields.items)

-- it was sent: what of its dictionaries was not sent yet, and the batch behind it
pub record HasSent (encode : List ℕ → List ℕ) (m : Moved) (old new : StreamCore) (b : Batch) : Type 0 where
  pub used : ℤ → Bool
  pub sent : List ToSend
  pub is_found : found_before old b ≡ Ok (record { held = held_by new.tracker; used = used; sent = sent })
  pub may : MayBeSent old.options sent b
  pub appended : Appends m.old m.new (encode (chunk_text sent b))
  pub counts : NoneFalls m
  pub state : new.state ≡ old.state
  pub stays : Stays old new
  pub count : new.byte_count ≡ counted (old.byte_count + length (chunk_text sent b))
  pub few : length (chunk_text sent b) < 2 ^ 127 + 2 ^ 96

-- a put of one of its messages failed
pub record SendFailed (encode : List ℕ → List ℕ) (m : Moved) (e : IpcError) (old new : StreamCore) (b : Batch) : Type 0 where
  pub sending : Sending
  pub is_found : found_before old b ≡ Ok sending
  pub may : MayBeSent old.options sending.sent b
  pub failed : HasFailed encode m e (chunk_text sending.sent b) old new

-- why it is not sent: memory was wanted, the dictionaries are refused, or one of the messages
abbrev pub SendCause : IpcError → StreamCore → Batch → Type 0
SendCause e c b = Stops e (found_before c b) (λ sent. RefusesChunk e c.options sent b)

abbrev pub Sends : (List ℕ → List ℕ) → Moved → Result (Unit {0}) IpcError → StreamCore → StreamCore → Batch → Type 0
Sends encode m (Ok u) old new b = HasSent encode m old new b
Sends encode m (Err e) old new b = (SendCause e old b × LeavesAll m old new) ⊎ SendFailed encode m e old new b

-- a batch was written
pub record HasWritten (encode : List ℕ → List ℕ) (m : Moved) (old new : StreamCore) (b : Batch) (given : Option Ids) : Type 0 where
  pub started : is_started old.state ≡ true
  pub suits : SuitsStream old b given
  pub sends : HasSent encode m old new b
  -- the table that the bytes mean has the batch behind those before it
  pub written : (pairs : StreamPairs) (x : List ℕ) (bs : List TableBatch) → IsWritten pairs old x bs
      → IsWritten pairs new (x ++ chunk_text sends.sent b) (bs ++ cells_of b ∷ [])

-- why none was: the stream is not begun, or is ended, or a put has failed before; the batch is none of its; or it is not sent
abbrev pub WriteCause : IpcError → StreamCore → Batch → Option Ids → Type 0
WriteCause e c b given = ((e ≡ State) × (is_started c.state ≡ false))
    ⊎ ((is_started c.state ≡ true) × (((e ≡ SchemaMismatch) × (SuitsStream c b given → ⊥)) ⊎ (SuitsStream c b given × SendCause e c b)))

-- a put failed
pub record WriteFailed (encode : List ℕ → List ℕ) (m : Moved) (e : IpcError) (old new : StreamCore) (b : Batch) (given : Option Ids) : Type 0 where
  pub started : is_started old.state ≡ true
  pub suits : SuitsStream old b given
  pub sends : SendFailed encode m e old new b

abbrev pub Writes : (List ℕ → List ℕ) → Moved → Result (Unit {0}) IpcError → StreamCore → StreamCore → Batch → Option Ids → Type 0
Writes encode m (Ok u) old new b given = HasWritten encode m old new b given
Writes encode m (Err e) old new b given = (WriteCause e old b given × LeavesAll m old new) ⊎ WriteFailed encode m e old new b given

-- ── end ──

-- a stream was ended: the end mark was put
pub record HasFinished (encode : List ℕ → List ℕ) (m : Moved) (old new : StreamCore) : Type 0 where
  pub started : is_started old.state ≡ true
  pub state : new.state ≡ Finished
  pub appended : Appends m.old m.new (encode end_mark)
  pub counts : NoneFalls m
  pub tracker : new.tracker ≡ old.tracker
  pub stays : Stays old new
  pub count : new.byte_count ≡ counted (old.byte_count + 8)
  -- the bytes are a closed stream, and mean the table of the batches that were written
  pub written : (pairs : StreamPairs) (x : List ℕ) (bs : List TableBatch) → IsWritten pairs old x bs → IsEnded pairs new (x ++ end_mark) bs

abbrev pub Finishes : (List ℕ → List ℕ) → Moved → Result (Unit {0}) IpcError → StreamCore → StreamCore → Type 0
Finishes encode m (Ok u) old new = HasFinished encode m old new
Finishes encode m (Err e) old new =
    ((((e ≡ State) × (is_started old.state ≡ false)) ⊎ ((is_started old.state ≡ true) × (e ≡ Memory))) × LeavesAll m old new)
    ⊎ ((is_started old.state ≡ true) × HasFailed encode m e end_mark old new × (old.encoding ≡ Bytes → e ≡ WriteFault))
