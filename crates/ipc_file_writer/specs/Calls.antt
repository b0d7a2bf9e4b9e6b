-- What the calls of a writer of a file do to it, and what they put. (Arrow Columnar Format, "IPC File Format".)
use Rattle.std.specs.Prelude.{◌≡◌, ◌⊎◌, ◌+◌, ◌++◌, ◌∷◌, ℤ, List, [], Bool, true, false, not, ◌&&◌, ◌||◌, Option, Some, None, Result, Ok, Err, ℕ, String, length}
use Rattle.std.specs.BTreeMap.{BTreeMap}
use Rattle.std.specs.Rc.{rc_value}
use Rattle.std.specs.Io.KnownBytes.{Appends}
use Rattle.std.specs.declared.alloc.Global.{Global}
use Rattle.arrow_spec.specs.declared.error.IpcError.{IpcError}
use Rattle.arrow_spec.specs.declared.error.IpcError.TheVariants.{Memory, SchemaMismatch, State, TooLarge, WriteFault}
use Rattle.arrow_spec.specs.Files.{TableBatch}
use Rattle.arrow_spec.specs.Kinds.{Metadata}
use Rattle.arrow_spec.specs.Readings.{Reading}
use Rattle.arrow_spec.specs.Regular.{regular}
use Rattle.arrow_types.specs.Schemas.{Keyed, fields_in}
use Rattle.arrow_arrays.specs.Batches.{Batch}
use Rattle.arrow_arrays.specs.Parts.{forest}
use Rattle.ipc_fields.specs.IpcFields.{Ids, ids_of}
use Rattle.ipc_messages.specs.Below.{Moved, NoneFalls, PutsPart, Sending, ToSend, IsKept, held_by, options_of, WriteOptions}
use Rattle.ipc_messages.specs.Chunks.{MayBeSent, RefusesChunk, Stops, found}
use Rattle.ipc_messages.specs.declared.state.WriterState.TheVariants.{New, Started, Finished, Failed}
use Rattle.ipc_messages.specs.Batches.{Suits}
use Rattle.ipc_messages.specs.Fields.{AreIdsFor}
use Rattle.ipc_messages.specs.Messages.{chunk_text}
use Rattle.ipc_messages.specs.Puts.{Grew, Untouched}
use Rattle.ipc_messages.specs.Schemas.{IsRefusedAs, SchemaIsSaid}
use Rattle.ipc_messages.specs.States.{is_new, is_started}
use Rattle.laws_writers.specs.Written.{cells_of}
use Rattle.ipc_file_writer.specs.Written.{EndsFile, HasNothing, IsFile, cells_by, own_fields}
use Rattle.ipc_file_writer.specs.Blocks.{HasMore, SameBlocks, are_placed, chunk_sizes}
use Rattle.ipc_file_writer.specs.Ends.{file_ending, file_start}
use Rattle.ipc_file_writer.specs.declared.file.FileCore.{FileCore}

-- the schema of a file, and the ids of its IPC fields
abbrev pub file_schema : FileCore → List Keyed
file_schema c = rc_value c.schema

abbrev pub file_ids : FileCore → Ids
file_ids c = ids_of c.ipc_schema.fields.items

-- a writer that has written nothing, of some options and a schema, with the IPC fields that are given or such whose ids count from 0 in preorder
pub record IsFresh (asked : WriteOptions) (s : List Keyed) (given : Option Ids) (c : FileCore) : Type 0 where
  pub options : c.options ≡ asked
  pub state : c.state ≡ New
  pub schema : file_schema c ≡ s
  pub ids : AreIdsFor (fields_in s) given (file_ids c)
  pub pairs : c.pairs ≡ record { schema = None; footer = None }
  pub held : (id : ℤ) → held_by c.tracker id ≡ None
  pub dictionaries : c.blocks.dictionaries.items ≡ []
  pub records : c.blocks.records.items ≡ []
  pub unwritten : c.has_written ≡ false

-- the options, the schema with its IPC fields, and the pairs stay
pub record Stays (old new : FileCore) : Type 0 where
  pub options : new.options ≡ old.options
  pub schema : new.schema ≡ old.schema
  pub ipc_schema : new.ipc_schema ≡ old.ipc_schema
  pub pairs : new.pairs ≡ old.pairs
  pub tracker : options_of new.tracker ≡ options_of old.tracker

-- nothing more was written
pub record HasNoMore (old new : FileCore) : Type 0 where
  pub held : IsKept (held_by old.tracker) (held_by new.tracker)
  pub blocks : SameBlocks old.blocks new.blocks
  pub written : new.has_written ≡ old.has_written
  pub stays : Stays old new

-- a call was refused: it leaves the writer, what it holds, and the sink
pub record LeavesAll (m : Moved) (old new : FileCore) : Type 0 where
  pub untouched : Untouched m
  pub state : new.state ≡ old.state
  pub same : HasNoMore old new

-- a put failed, or wanted memory behind a byte that was put: a part of what was to be put is there, no block and no dictionary of it is held, and the
-- writer has failed
pub record HasFailed (m : Moved) (e : IpcError) (bytes : List ℕ) (old new : FileCore) : Type 0 where
  pub put : PutsPart m e bytes
  pub behind : e ≡ Memory → Grew m.old m.new
  pub state : new.state ≡ Failed
  pub same : HasNoMore old new

-- ── pairs ──

-- no batch was written yet, and the file is not ended
abbrev pub takes_pairs : FileCore → Bool
takes_pairs c = is_new c.state || (is_started c.state && not c.has_written)

-- the footer's pairs were given
pub record HasFooterPairs (old new : FileCore) (given : BTreeMap (String Global) (String Global)) : Type 0 where
  pub taken : takes_pairs old ≡ true
  pub pairs : new.pairs ≡ record { schema = old.pairs.schema; footer = Some given }
  pub state : new.state ≡ old.state
  pub options : new.options ≡ old.options
  pub schema : new.schema ≡ old.schema
  pub ipc_schema : new.ipc_schema ≡ old.ipc_schema
  pub tracker : new.tracker ≡ old.tracker
  pub blocks : new.blocks ≡ old.blocks
  pub written : new.has_written ≡ old.has_written

-- or it is too late, and the writer is left
abbrev pub SetsFooterPairs : Result (Unit {0}) IpcError → FileCore → FileCore → BTreeMap (String Global) (String Global) → Type 0
SetsFooterPairs (Ok u) old new given = HasFooterPairs old new given
SetsFooterPairs (Err e) old new given = (e ≡ State) × (takes_pairs old ≡ false) × (new ≡ old)

-- ── begin ──

-- what a file begins with
abbrev pub start_of : FileCore → Reading (List ℕ)
start_of c = file_start c.options (fields_in (file_schema c)) (file_ids c)

-- a file was begun: its front and the message of its schema were put
pub record HasBegun (m : Moved) (old new : FileCore) : Type 0 where
  pub new_before : is_new old.state ≡ true
  pub state : new.state ≡ Started
  pub bytes : List ℕ
  pub text : start_of old ≡ Ok bytes
  pub appended : Appends m.old m.new bytes
  pub counts : NoneFalls m
  pub dictionaries : new.blocks.dictionaries ≡ old.blocks.dictionaries
  pub records : new.blocks.records ≡ old.blocks.records
  pub end : new.blocks.end ≡ length bytes
  pub tracker : new.tracker ≡ old.tracker
  pub written : new.has_written ≡ old.has_written
  pub stays : Stays old new
  -- where nothing was written before, and the schema may be said, with whatever pairs, the bytes mean no batches; it may where it is regular
  pub said : HasNothing old → (pairs : Metadata) → SchemaIsSaid (own_fields old) pairs → IsFile (cells_by new) new bytes []
  pub means : HasNothing old → (pairs : Metadata) → regular (own_fields old) pairs ≡ true → IsFile (cells_by new) new bytes []

-- why none was: it was before, or memory was wanted, or the schema is refused
abbrev pub StartCause : IpcError → FileCore → Type 0
StartCause e c = ((e ≡ State) × (is_new c.state ≡ false)) ⊎ ((is_new c.state ≡ true) × IsRefusedAs e (start_of c))

-- the one put failed
pub record StartFailed (m : Moved) (e : IpcError) (old new : FileCore) : Type 0 where
  pub new_before : is_new old.state ≡ true
  pub bytes : List ℕ
  pub text : start_of old ≡ Ok bytes
  pub failed : HasFailed m e bytes old new
  pub whole : e ≡ WriteFault

abbrev pub Starts : Moved → Result (Unit {0}) IpcError → FileCore → FileCore → Type 0
Starts m (Ok u) old new = HasBegun m old new
Starts m (Err e) old new = (StartCause e old × LeavesAll m old new) ⊎ StartFailed m e old new

-- ── batches ──

-- a batch is one of a file's
abbrev pub SuitsFile : FileCore → Batch → Option Ids → Type 0
SuitsFile c b given = Suits (file_schema c) (file_ids c) b given

-- what of its dictionaries is to be sent before it
abbrev pub found_before : FileCore → Batch → Result Sending IpcError
found_before c b = found c.tracker (forest b.arrays) (file_ids c)

-- its messages may be sent, and have blocks
pub record MayBeAdded (c : FileCore) (sent : List ToSend) (b : Batch) : Type 0 where
  pub may : MayBeSent c.options sent b
  pub placed : are_placed c.blocks.end (chunk_sizes sent b) ≡ true

-- why not: a message is refused, or its place
abbrev pub RefusesMore : IpcError → FileCore → List ToSend → Batch → Type 0
RefusesMore e c sent b = RefusesChunk e c.options sent b
    ⊎ ((e ≡ TooLarge) × MayBeSent c.options sent b × (are_placed c.blocks.end (chunk_sizes sent b) ≡ false))

-- it was sent: what of its dictionaries was not sent yet, and the batch behind it, and the file has their blocks
pub record HasSent (m : Moved) (old new : FileCore) (b : Batch) : Type 0 where
  pub used : ℤ → Bool
  pub sent : List ToSend
  pub is_found : found_before old b ≡ Ok (record { held = held_by new.tracker; used = used; sent = sent })
  pub may : MayBeAdded old sent b
  pub appended : Appends m.old m.new (chunk_text sent b)
  pub counts : NoneFalls m
  pub blocks : HasMore old.blocks new.blocks sent b
  pub written : new.has_written ≡ true
  pub state : new.state ≡ old.state
  pub stays : Stays old new

-- a put of one of its messages failed
pub record SendFailed (m : Moved) (e : IpcError) (old new : FileCore) (b : Batch) : Type 0 where
  pub sending : Sending
  pub is_found : found_before old b ≡ Ok sending
  pub may : MayBeAdded old sending.sent b
  pub failed : HasFailed m e (chunk_text sending.sent b) old new

-- why it is not sent: memory was wanted, the dictionaries are refused, or one of the messages, or its place
abbrev pub SendCause : IpcError → FileCore → Batch → Type 0
SendCause e c b = Stops e (found_before c b) (λ sent. RefusesMore e c sent b)

abbrev pub Sends : Moved → Result (Unit {0}) IpcError → FileCore → FileCore → Batch → Type 0
Sends m (Ok u) old new b = HasSent m old new b
Sends m (Err e) old new b = (SendCause e old b × LeavesAll m old new) ⊎ SendFailed m e old new b

-- a batch was written
pub record HasWritten (m : Moved) (old new : FileCore) (b : Batch) (given : Option Ids) : Type 0 where
  pub started : is_started old.state ≡ true
  pub suits : SuitsFile old b given
  pub sends : HasSent m old new b
  -- the file means the batch behind those before it
  pub means : (x : List ℕ) (bs : List TableBatch) → IsFile (cells_by old) old x bs
      → IsFile (cells_by new) new (x ++ chunk_text sends.sent b) (bs ++ cells_of b ∷ [])

-- why none was: the file is not begun, or is ended, or a put has failed before; the batch is none of its; or it is not sent
abbrev pub WriteCause : IpcError → FileCore → Batch → Option Ids → Type 0
WriteCause e c b given = ((e ≡ State) × (is_started c.state ≡ false))
    ⊎ ((is_started c.state ≡ true) × (((e ≡ SchemaMismatch) × (SuitsFile c b given → ⊥)) ⊎ (SuitsFile c b given × SendCause e c b)))

-- a put failed
pub record WriteFailed (m : Moved) (e : IpcError) (old new : FileCore) (b : Batch) (given : Option Ids) : Type 0 where
  pub started : is_started old.state ≡ true
  pub suits : SuitsFile old b given
  pub sends : SendFailed m e old new b

abbrev pub Writes : Moved → Result (Unit {0}) IpcError → FileCore → FileCore → Batch → Option Ids → Type 0
Writes m (Ok u) old new b given = HasWritten m old new b given
Writes m (Err e) old new b given = (WriteCause e old b given × LeavesAll m old new) ⊎ WriteFailed m e old new b given

-- ── end ──

-- what a file ends with
abbrev pub ending_of : FileCore → Reading (List ℕ)
ending_of c = file_ending c.options (fields_in (file_schema c)) (file_ids c) c.pairs c.blocks

-- a file was ended: the end mark, the footer of its blocks, its length and ARROW1 were put
pub record HasFinished (m : Moved) (old new : FileCore) : Type 0 where
  pub started : is_started old.state ≡ true
  pub state : new.state ≡ Finished
  pub bytes : List ℕ
  pub text : ending_of old ≡ Ok bytes
  pub appended : Appends m.old m.new bytes
  pub counts : NoneFalls m
  pub tracker : new.tracker ≡ old.tracker
  pub dictionaries : new.blocks.dictionaries ≡ old.blocks.dictionaries
  pub records : new.blocks.records ≡ old.blocks.records
  -- how many bytes the file has
  pub end : new.blocks.end ≡ old.blocks.end + length bytes
  pub written : new.has_written ≡ old.has_written
  pub stays : Stays old new
  -- where the schema may be said, the bytes end a file that means the table of the batches
  pub means : EndsFile old bytes

-- why none was: it is not begun, or is ended, or a put has failed; or memory was wanted, or the footer or its place is refused
abbrev pub FinishCause : IpcError → FileCore → Type 0
FinishCause e c = ((e ≡ State) × (is_started c.state ≡ false)) ⊎ ((is_started c.state ≡ true) × IsRefusedAs e (ending_of c))

-- the one put failed
pub record FinishFailed (m : Moved) (e : IpcError) (old new : FileCore) : Type 0 where
  pub started : is_started old.state ≡ true
  pub bytes : List ℕ
  pub text : ending_of old ≡ Ok bytes
  pub failed : HasFailed m e bytes old new
  pub whole : e ≡ WriteFault

abbrev pub Finishes : Moved → Result (Unit {0}) IpcError → FileCore → FileCore → Type 0
Finishes m (Ok u) old new = HasFinished m old new
Finishes m (Err e) old new = (FinishCause e old × LeavesAll m old new) ⊎ FinishFailed m e old new

-- ── a writer that has begun ──

-- a writer was made, and its file begun
pub record IsBegun (m : Moved) (asked : WriteOptions) (s : List Keyed) (given : Option Ids) (new : FileCore) : Type 0 where
  pub fresh : FileCore
  pub made : IsFresh asked s given fresh
  pub begun : HasBegun m fresh new

-- one was made, and its file is not begun
pub record IsUnbegun (m : Moved) (e : IpcError) (asked : WriteOptions) (s : List Keyed) (given : Option Ids) : Type 0 where
  pub fresh : FileCore
  pub made : IsFresh asked s given fresh
  pub left : FileCore
  pub starts : Starts m (Err e) fresh left

-- that, or memory was wanted for it
abbrev pub IsNotBegun : Moved → IpcError → WriteOptions → List Keyed → Option Ids → Type 0
IsNotBegun m e asked s given = ((e ≡ Memory) × Untouched m) ⊎ IsUnbegun m e asked s given
