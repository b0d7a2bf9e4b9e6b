-- The stream of a record as it is written. (Arrow Columnar Format, "IPC Streaming Format".)
use Rattle.std.specs.Prelude.{◌≡◌, ◌⊎◌, ℕ, ◌<◌, List, [], ◌∷◌, ◌++◌, length, true, Option, None, Some, Ok}
use Rattle.std.specs.Option.{option_map}
use denote.Ref.{Bor}
use Rattle.arrow_spec.specs.declared.error.IpcError.{IpcError}
use Rattle.arrow_spec.specs.declared.error.IpcError.TheVariants.{Memory, SchemaMismatch, TooMany}
use Rattle.arrow_spec.specs.declared.error.Counted.TheVariants.{Dictionaries}
use Rattle.arrow_spec.specs.Files.{TableBatch}
use Rattle.arrow_spec.specs.Regular.{regular}
use Rattle.arrow_spec.specs.Streams.{end_mark}
use Rattle.arrow_types.specs.Schemas.{Keyed, fields_in}
use Rattle.arrow_arrays.specs.Batches.{Batch}
use Rattle.ipc_bodies.specs.Puts.{Moved}
use Rattle.ipc_bodies.specs.declared.encoding.Encoding.TheVariants.{Bytes}
use Rattle.ipc_record_log.specs.Logs.{invalid_log}
use Rattle.ipc_stream_writer.specs.Below.{cells_of, chunk_text}
use Rattle.ipc_stream_writer.specs.Calls.{HasBegun, HasFinished, HasWritten, IsFresh, SendCause, StartCause, SuitsStream}
use Rattle.ipc_stream_writer.specs.declared.stream.StreamCore.{StreamCore}
use Rattle.ipc_append.specs.Below.{WriteOptions}
use Rattle.laws_logs.specs.Tables.{dictionaries_from}

-- a dictionary of several parts goes out as its first part and deltas
abbrev pub record_options : WriteOptions
record_options = record { compression = None; metadata_limit = 2147483647; deltas = true }

-- a writer that has begun a stream of a schema, without pairs
pub record HasBegunRecord (s : List Keyed) (c : StreamCore) : Type 0 where
  pub fresh : StreamCore
  pub is_fresh : IsFresh record_options Bytes fresh
  pub m : Moved
  pub begun : HasBegun (λ bytes. bytes) m fresh c s None

-- what is put of a batch: what of its dictionaries stands before it, and its own message
pub record IsBatchText (c behind : StreamCore) (x : Batch) (text : List ℕ) : Type 0 where
  pub m : Moved
  pub written : HasWritten (λ bytes. bytes) m c behind x None
  pub is : text ≡ chunk_text written.sends.sent x

-- a batch that is lent, if there is one
abbrev pub lent : Option (Bor Batch) → Option Batch
lent = option_map (λ x. x.now)

-- of no batch nothing is put
abbrev pub AreTexts : StreamCore → StreamCore → Option Batch → List ℕ → Type 0
AreTexts c behind None text = (behind ≡ c) × (text ≡ [])
AreTexts c behind (Some x) text = IsBatchText c behind x text

-- a writer that has ended its stream
pub record IsEndedBy (c : StreamCore) : Type 0 where
  pub ended : StreamCore
  pub m : Moved
  pub finished : HasFinished (λ bytes. bytes) m c ended

-- the bytes are the stream of a schema, and of a batch if there is one
pub record IsStreamOf (s : List Keyed) (batch : Option Batch) (bytes : List ℕ) : Type 0 where
  pub core : StreamCore
  pub begun : HasBegunRecord s core
  pub behind : StreamCore
  pub text : List ℕ
  pub texts : AreTexts core behind batch text
  pub ended : IsEndedBy behind
  pub are : bytes ≡ begun.begun.bytes ++ (text ++ end_mark)

-- the batches of a table
abbrev pub batches_of : Option Batch → List TableBatch
batches_of None = []
batches_of (Some x) = cells_of x ∷ []

-- ── why there is none ──

-- the batch is none of the stream's, or is not sent
abbrev pub BatchCause : IpcError → StreamCore → Option Batch → Type 0
BatchCause e c None = ⊥
BatchCause e c (Some x) = ((e ≡ SchemaMismatch) × (SuitsStream c x None → ⊥)) ⊎ (SuitsStream c x None × SendCause e c x)

-- the stream of a schema is not begun
pub record IsNotBegun (e : IpcError) (s : List Keyed) : Type 0 where
  pub fresh : StreamCore
  pub is_fresh : IsFresh record_options Bytes fresh
  pub cause : StartCause e fresh s None

-- or it is begun, and the batch is not written
pub record HasNoBatch (e : IpcError) (s : List Keyed) (batch : Option Batch) : Type 0 where
  pub core : StreamCore
  pub begun : HasBegunRecord s core
  pub cause : BatchCause e core batch

-- or memory was wanted
abbrev pub StreamCause : IpcError → List Keyed → Option Batch → Type 0
StreamCause e s batch = (e ≡ Memory) ⊎ (IsNotBegun e s ⊎ HasNoBatch e s batch)

-- a stream has more dictionary messages than a record may have
pub record HasTooMany (s : List Keyed) (batch : Option Batch) : Type 0 where
  pub bytes : List ℕ
  pub is : IsStreamOf s batch bytes
  pub count : ℕ
  pub counted : dictionaries_from (length bytes) bytes ≡ Ok count
  pub many : 1048576 < count

-- Why no record is made: there is no stream, or it has too many dictionaries. A schema that is not regular is not read back, and its stream may be none.
abbrev pub RecordCause : IpcError → List Keyed → Option Batch → Type 0
RecordCause e s batch = StreamCause e s batch
    ⊎ (((e ≡ TooMany Dictionaries) × HasTooMany s batch) ⊎ ((e ≡ invalid_log) × (regular (fields_in s) [] ≡ true → ⊥)))
