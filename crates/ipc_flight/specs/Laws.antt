-- Calls of a producer and of a consumer, one after another, and what they give of a file. (Arrow Columnar Format, "IPC File Format".)
use Rattle.std.specs.Prelude.{◌≡◌, ◌≤◌, ℕ, List, [], ◌∷◌, ◌++◌, length, map, Option, None, Some, Ok}
use Rattle.arrow_spec.specs.Arrays.{Dictionaries}
use Rattle.arrow_spec.specs.Files.{ArrowTable, FileBlock, Meta, «all»}
use Rattle.arrow_spec.specs.Kinds.{Metadata, bare}
use Rattle.arrow_spec.specs.Meaning.{file_table}
use Rattle.arrow_spec.specs.Schema.{Schema}
use Rattle.arrow_arrays.specs.Batches.{Batch}
use Rattle.ipc_files.specs.Below.{table_of}
use Rattle.ipc_files.specs.FileViews.{FileSays}
use Rattle.ipc_read_laws.specs.Held.{Held}
use Rattle.ipc_streams.specs.Starts.{Start}
use Rattle.ipc_write.specs.declared.encoded.EncodedData.{EncodedData}
use Rattle.ipc_flight.specs.Consumed.{IsTaken}
use Rattle.ipc_flight.specs.Firsts.{GivesFirst, first_in}
use Rattle.ipc_flight.specs.Flights.{Handed, Taken}
use Rattle.ipc_flight.specs.Hands.{HandsOver, handed_of}

-- The messages that calls hand over of some blocks, one after another, from the block of a number on, none of them refused.
pub data HandsEach (b : List ℕ) (blocks : List FileBlock) : ℕ → List Handed → Type 0 where
  none_left : {i : ℕ} → length blocks ≤ i → HandsEach b blocks i []
  one_more : {i i' : ℕ} {x : EncodedData} {xs : List Handed} → HandsOver (Some b) blocks i i' x (Ok (Some tt)) → HandsEach b blocks i' xs → HandsEach b blocks i (handed_of x ∷ xs)

-- a batch before others, if there is one
abbrev pub with_given : Option Batch → List Batch → List Batch
with_given None bs = bs
with_given (Some b) bs = b ∷ bs

-- The batches that calls give of messages, one after another, none of them refused.
pub data TakesEach (s : Schema) : Dictionaries → List Handed → List Batch → Type 0 where
  all_taken : {d : Dictionaries} → TakesEach s d [] []
  a_message : {d : Dictionaries} {x : Handed} {xs : List Handed} {h : Held} {o : Option Batch} {t : Taken} {bs : List Batch} → IsTaken d s x h o t
      → TakesEach s t.dictionaries xs bs → TakesEach s d (x ∷ xs) (with_given o bs)

-- what a consumer knows and gives is what a table has
pub record IsTable (start : Start) (batches : List Batch) (t : ArrowTable) : Type 0 where
  pub metadata : start.schema.metadata ≡ t.metadata
  pub custom : start.custom ≡ t.custom
  pub fields : bare start.schema.fields ≡ t.fields
  pub batches_are : map table_of batches ≡ t.batches

-- Of a file with a batch, that means a table: a consumer of its schema's message, that is handed every dictionary's message and then every batch's, gives the table's batches.
abbrev pub ConsumedFlightIsTheFile : Type 0
ConsumedFlightIsTheFile = (b : List ℕ) (meta : Meta) (custom : Metadata) (block : FileBlock) (blocks : List FileBlock) (t : ArrowTable) (first : EncodedData) (start : Start) (ds xs : List Handed) (batches : List Batch)
    → FileSays b meta custom → meta.blocks ≡ block ∷ blocks → file_table b «all» ≡ Some t
    → GivesFirst meta.schema custom (Ok first) → first_in first.ipc_message.items ≡ Ok start
    → HandsEach b meta.dictionaries 0 ds → HandsEach b meta.blocks 0 xs → TakesEach start.schema [] (ds ++ xs) batches → IsTable start batches t
