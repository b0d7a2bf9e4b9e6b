-- Streams that are read to their end. (Arrow Columnar Format, "IPC Streaming Format".)
use Rattle.std.specs.Prelude.{◌≡◌, ◌⊎◌, ℕ, List, [], ◌∷◌, map, All, Option, Some, None, Result, Ok, Err, IfSome, IfOk, false}
use Rattle.std.specs.declared.alloc.Global.{Global}
use Rattle.std.specs.declared.vec.Vec.{Vec}
use Rattle.arrow_spec.specs.declared.error.IpcError.{IpcError}
use Rattle.arrow_spec.specs.declared.error.IpcError.TheVariants.{TooMany}
use Rattle.arrow_spec.specs.declared.error.Counted.TheVariants as counted
use Rattle.arrow_spec.specs.Arrays.{Dictionaries}
use Rattle.arrow_spec.specs.Files.{ArrowTable, TableBatch}
use Rattle.arrow_spec.specs.Kinds.{bare}
use Rattle.arrow_spec.specs.Readings.{Refuses, refusals}
use Rattle.arrow_spec.specs.Schema.{Schema}
use Rattle.arrow_spec.specs.Streams.{Reader, stream_reading, stream_table}
use Rattle.arrow_arrays.specs.Batches.{Batch}
use Rattle.arrow_types.specs.Schemas.{Keyed}
use Rattle.ipc_fields.specs.IpcFields.{metadata_of}
use Rattle.ipc_streams.specs.Below.{FileCause, table_of, Held, held_in, HoldsCells, HasFields, none_held}
use Rattle.ipc_streams.specs.Arrays.{NextArrays, StreamArrays, arrays_of}
use Rattle.ipc_streams.specs.Feeds.{FeedKept}
use Rattle.ipc_streams.specs.Readers.{fields_shown}
use Rattle.ipc_streams.specs.Starts.{Start, start_in, start_view, stream_schema}
use Rattle.ipc_streams.specs.Steps.{Nexts, a_batch, most_dictionaries, next_in}
use Rattle.ipc_streams.specs.declared.columns.StreamColumns.{StreamColumns}
use Rattle.ipc_streams.specs.declared.cursor.StreamCursor.{StreamCursor}
use Rattle.ipc_streams.specs.declared.state.StreamState.{StreamState}
use Rattle.ipc_streams.specs.declared.state.StreamState.TheVariants as states
use Rattle.ipc_append.specs.declared.stream.WholeStream.{WholeStream}

-- a stream that is read in all its columns
abbrev pub reader_of : Schema → Reader
reader_of schema = record { schema = schema; columns = None }

-- ── what a stream is refused for ──

-- Behind some record batches, one after another, what stands next is refused.
pub data StopsBehind (s : Reader) (e : IpcError) : Dictionaries → List ℕ → List TableBatch → Type 0 where
  stops_here : {d : Dictionaries} {b : List ℕ} → Refuses e (refusals (next_in most_dictionaries s d b)) → StopsBehind s e d b []
  stops_later : {d d' : Dictionaries} {b rest : List ℕ} {x : TableBatch} {xs : List TableBatch}
      → next_in most_dictionaries s d b ≡ Ok (record { found = a_batch x; dictionaries = d'; rest = rest }) → StopsBehind s e d' rest xs
      → StopsBehind s e d b (x ∷ xs)

-- behind some record batches of a stream more dictionaries stand before the next one than may
pub record HasTooMany (e : IpcError) (b : List ℕ) : Type 0 where
  pub is : e ≡ TooMany counted.Dictionaries
  pub start : Start
  pub rest : List ℕ
  pub begun : start_in b ≡ Ok (start, rest)
  pub batches : List TableBatch
  pub stops : StopsBehind (reader_of start.schema) e [] rest batches

-- why a stream is refused: as its meaning is, or for too many dictionaries, which that allows
abbrev pub RefusesStream : IpcError → List ℕ → Type 0
RefusesStream e b = Refuses e (refusals (stream_reading b None)) ⊎ HasTooMany e b

-- the feed behind the calls that a refusal stopped, whose count of faults rose where it failed
pub record FailsBehind {F : Type 0} (faults_of : F → ℕ) (references_of : F → List ℕ) (f : F) (e : IpcError) : Type 0 where
  pub behind : F
  pub kept : FeedKept faults_of references_of f behind
  pub cause : FileCause e (faults_of f) (faults_of behind)

-- ── what a stream has ──

-- the table of a stream that was read
abbrev pub table_read : WholeStream → ArrowTable
table_read s = record {
  metadata = (stream_schema s.metadata).metadata;
  custom = metadata_of s.metadata.custom_metadata;
  fields = bare (stream_schema s.metadata).fields;
  batches = map table_of s.batches.items;
}

-- it begins with the schema message, the batches stand behind it up to its end, and they are those of the table that it means; their arrays are those that the messages say
pub record IsWhole (b : List ℕ) (s : WholeStream) : Type 0 where
  pub rest : List ℕ
  pub begun : start_in b ≡ Ok (start_view s.metadata, rest)
  pub nexts : Nexts (reader_of (stream_schema s.metadata)) [] rest (map table_of s.batches.items)
  pub table : stream_table b None ≡ Some (table_read s)
  pub arrays : StreamArrays (reader_of (stream_schema s.metadata)) none_held rest (arrays_of s.batches.items)

-- ── the batches that are left ──

-- what a reader of all columns knows
abbrev pub all_columns : StreamColumns → Reader
all_columns c = reader_of (stream_schema c.metadata)

-- the record batch of what stands next
abbrev pub batch_found : StreamState → Option Batch
batch_found states.Waiting = None
batch_found (states.Some x) = Some x

-- a call gives the next batch of all columns, behind which there may be more, or none at the end, or it is refused
abbrev pub NextGiven : Reader → Dictionaries → List ℕ → Option (List ℕ) → StreamCursor → Result (Option Batch) IpcError → Type 0
NextGiven s d b rest' c' (Ok (Some x)) = (e : Dictionaries) × (rest : List ℕ)
    × (next_in most_dictionaries s d b ≡ Ok (record { found = a_batch (table_of x); dictionaries = e; rest = rest })) × (rest' ≡ Some rest)
    × HoldsCells e (held_in c'.dictionaries)
NextGiven s d b rest' c' (Ok None) = Nexts s d b []
NextGiven s d b rest' c' (Err e) = Refuses e (refusals (next_in most_dictionaries s d b))

-- its arrays, or none at the end, under what is held
abbrev pub ArraysGiven : Reader → Held → List ℕ → Option (List ℕ) → Held → Option Batch → Type 0
ArraysGiven s h b rest' h' None = NextArrays s h b h' None
ArraysGiven s h b rest' h' (Some x) = (rest : List ℕ) × (rest' ≡ Some rest) × NextArrays s h b h' (Some (record { arrays = x.arrays; rest = rest }))

-- the same, by what the reader holds of dictionaries; it keeps its columns
pub record GivesMore (rest rest' : Option (List ℕ)) (c c' : StreamCursor) (result : Result (Option Batch) IpcError) : Type 0 where
  pub gives : (d : Dictionaries) → HoldsCells d (held_in c.dictionaries) → IfSome rest (λ b. NextGiven (all_columns c.columns) d b rest' c' result)
  pub arrays : (d : Dictionaries) → HoldsCells d (held_in c.dictionaries)
      → IfOk result (λ o. IfSome rest (λ b. ArraysGiven (all_columns c.columns) (held_in c.dictionaries) b rest' (held_in c'.dictionaries) o))
  pub fields : IfOk result (λ o. IfSome o (λ x. HasFields x (fields_shown c.columns)))
  pub more : IfOk result (λ o. IfSome o (λ x. c'.is_finished ≡ false))
  pub columns : c'.columns ≡ c.columns

-- the batches that are left, or what they are refused for
abbrev pub EachGiven : Reader → Dictionaries → List ℕ → Result (Vec Batch Global) IpcError → Type 0
EachGiven s d b (Ok v) = Nexts s d b (map table_of v.items)
EachGiven s d b (Err e) = (xs : List TableBatch) × StopsBehind s e d b xs

pub record GivesEach (rest : Option (List ℕ)) (c : StreamCursor) (result : Result (Vec Batch Global) IpcError) : Type 0 where
  pub gives : (d : Dictionaries) → HoldsCells d (held_in c.dictionaries) → IfSome rest (λ b. EachGiven (all_columns c.columns) d b result)
  pub arrays : (d : Dictionaries) → HoldsCells d (held_in c.dictionaries)
      → IfOk result (λ v. IfSome rest (λ b. StreamArrays (all_columns c.columns) (held_in c.dictionaries) b (arrays_of v.items)))
  pub fields : IfOk result (λ v. All (λ x. HasFields x (fields_shown c.columns)) v.items)

-- all batches behind a schema message
pub record AllOf (rest : Option (List ℕ)) (schema : Schema) (shown : List Keyed) (result : Result (Vec Batch Global) IpcError) : Type 0 where
  pub gives : IfSome rest (λ b. EachGiven (reader_of schema) [] b result)
  pub arrays : IfOk result (λ v. IfSome rest (λ b. StreamArrays (reader_of schema) none_held b (arrays_of v.items)))
  pub fields : IfOk result (λ v. All (λ x. HasFields x shown) v.items)
