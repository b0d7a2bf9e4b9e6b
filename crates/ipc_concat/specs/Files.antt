-- Several files, read one after another, and their batches written to one stream: what is known in between.
use Rattle.std.specs.Prelude.{◌≡◌, ◌⊎◌, ◌≤◌, ℕ, suc, List, [], ◌∷◌, ◌++◌, length, sum_by, true, ⊤, Option, None, Some, Result, Ok, Err, IfSome}
use Rattle.std.specs.List.{AllByRecursion}
use Rattle.std.specs.Io.KnownBytes.{Appends, Keeps}
use Rattle.std.specs.Rc.{rc_value}
use Rattle.arrow_spec.specs.declared.error.IpcError.{IpcError}
use Rattle.arrow_spec.specs.declared.error.IpcError.TheVariants.{TooLarge}
use Rattle.arrow_spec.specs.Features.{chosen_floats}
use Rattle.arrow_spec.specs.Files.{ArrowTable, TableBatch, «all», file_reading, to_read}
use Rattle.arrow_spec.specs.Kinds.{bare, have_same_kinds}
use Rattle.arrow_spec.specs.Meaning.{file_table}
use Rattle.arrow_spec.specs.Readings.{Refuses, refusals}
use Rattle.arrow_spec.specs.Streams.{stream_table, unended}
use Rattle.arrow_types.specs.Schemas.{Keyed, fields_in}
use Rattle.arrow_arrays.specs.Batches.{Batch}
use Rattle.ipc_io.specs.Outside.{AppendsPrefix, IsSize}
use Rattle.ipc_bodies.specs.Encodings.{text_of}
use Rattle.ipc_bodies.specs.declared.encoding.Encoding.{Encoding}
use Rattle.ipc_bodies.specs.declared.encoding.Encoding.TheVariants.{Bytes}
use Rattle.laws_transcode.specs.Files.{table_asked}
use Rattle.laws_walk.specs.Below.{FileMetadata, FileSays, WasRead, file_custom, meta_view, FileCursor, NotRead, RefusesChunk, StreamPairs, cells_of, counted, found_before, IsWritten, table_with, StreamCore}
use Rattle.ipc_dictionaries.specs.NewDictionaries.{Sending}
use Rattle.laws_walk.specs.Places.{IsReadBy, Sending as SentFile, Walked, place_of, walking}
use Rattle.laws_walk.specs.Sends.{IsWriter, send_options}
use Rattle.ipc_concat.specs.Concat.{AddsPart, IsOfPut}
use Rattle.ipc_concat.specs.Opening.{AreOpen, StopsOpening, StopsStart}
use Rattle.ipc_concat.specs.Tables.{AreTables, batches_in}
use Rattle.ipc_concat.specs.declared.stream.JoinedStream.{JoinedStream}

-- ── files ──

-- the schema of a reader of all columns
abbrev pub schema_of : FileCursor → List Keyed
schema_of c = rc_value c.metadata.schema

-- A reader at the first block of a file, of all columns and all rows.
pub record IsUnread (content : Option (List ℕ)) (c : FileCursor) : Type 0 where
  pub says : IfSome content (λ b. FileSays b (meta_view c.metadata) (file_custom c.metadata))
  pub size : IsSize content c.metadata.size
  pub read : WasRead c.metadata
  pub projection : c.projection ≡ None
  pub left : c.left ≡ None
  pub block : c.block ≡ 0
  pub dictionaries : c.dictionaries ≡ NotRead

-- one a source
abbrev pub AreUnread : List (Option (List ℕ)) → List FileCursor → Type 0
AreUnread [] [] = Unit {0}
AreUnread [] (c ∷ cs) = ⊥
AreUnread (b ∷ bs) [] = ⊥
AreUnread (b ∷ bs) (c ∷ cs) = IsUnread b c × AreUnread bs cs

-- a file has the fields of a schema, ids aside
pub record HasFieldsOf (s : List Keyed) (c : FileCursor) : Type 0 where
  pub fields : bare (fields_in s) ≡ bare (fields_in (schema_of c))
  pub kinds : have_same_kinds (fields_in s) (fields_in (schema_of c)) ≡ true

-- a reader of all columns of such a file, whose metadata was read
pub record IsReaderOf (s : List Keyed) (c : FileCursor) : Type 0 where
  pub read : WasRead c.metadata
  pub projection : c.projection ≡ None
  pub fields : HasFieldsOf s c

-- the schema of the first of several files
abbrev pub first_schema : List FileCursor → List Keyed
first_schema [] = []
first_schema (c ∷ cs) = schema_of c

-- they have its fields
abbrev pub AreAlike : List FileCursor → Type 0
AreAlike cs = AllByRecursion (HasFieldsOf (first_schema cs)) cs

-- a file has the fields of the first, if there is one
abbrev pub FitsFirst : List FileCursor → FileCursor → Type 0
FitsFirst [] c = ⊤
FitsFirst (d ∷ ds) c = bare (fields_in (schema_of d)) ≡ bare (fields_in (schema_of c))

abbrev pub FitsKinds : List FileCursor → FileCursor → Type 0
FitsKinds [] c = ⊤
FitsKinds (d ∷ ds) c = have_same_kinds (fields_in (schema_of d)) (fields_in (schema_of c)) ≡ true

-- ── the stream ──

-- where a stream begins, how its bytes are put, and its table without batches
pub record Start : Type 0 where
  pub head : ArrowTable
  pub encoding : Encoding
  pub before : Option (List ℕ)

abbrev pub with_batches : ArrowTable → List TableBatch → ArrowTable
with_batches t xs = record { metadata = t.metadata; custom = t.custom; fields = t.fields; batches = xs }

-- the table of a file without its batches
abbrev pub head_of : FileMetadata → ArrowTable
head_of m = table_asked (file_custom m) (meta_view m) «all» []

-- a stream has the pairs and fields of the first of several files
abbrev pub BeginsWith : Start → List FileCursor → Type 0
BeginsWith x [] = ⊤
BeginsWith x (c ∷ cs) = head_of c.metadata ≡ x.head

-- its fields are those of a schema, ids aside, of kinds that can be read
pub record IsStartOf (x : Start) (s : List Keyed) : Type 0 where
  pub fields : x.head.fields ≡ bare (fields_in s)
  pub readable : chosen_floats None x.head.fields 0 ≡ []

-- The stream so far was put, and means these batches.
pub record Holds (x : Start) (s : JoinedStream) (now : Option (List ℕ)) (xs : List TableBatch) : Type 0 where
  pub pairs : StreamPairs
  pub bytes : List ℕ
  pub written : IsWritten pairs s.writer bytes xs
  pub head : table_with pairs s.writer [] ≡ x.head
  pub added : Appends x.before now (text_of x.encoding bytes)
  pub batches : s.batches ≡ counted (length xs)
  pub rows : s.rows ≡ counted (sum_by (λ (b : TableBatch). b.rows) xs)

-- it goes on, in its encoding
abbrev pub IsGoing : JoinedStream → Type 0
IsGoing s = IsWriter s.writer.schema s.writer.encoding s.writer

-- ── a file ──

-- a file, of which all columns and rows are read
abbrev pub whole_file : List ℕ → FileMetadata → SentFile
whole_file b m = record { bytes = b; file = m; request = «all»; encoding = Bytes; start = None }

-- the batches of a file's first blocks were read
pub record HasReadBlocks (b : List ℕ) (c : FileCursor) (xs : List TableBatch) : Type 0 where
  pub by : IsReadBy c (whole_file b c.metadata)
  pub walked : Walked to_read (walking (whole_file b c.metadata)) (place_of c) xs

-- the table of a file's first batches
abbrev pub part_of : FileMetadata → List TableBatch → ArrowTable
part_of m xs = table_asked (file_custom m) (meta_view m) «all» xs

-- An unended stream that means the batches before a file's and the first of its own.
pub record IsPut (x : Start) (b : List ℕ) (m : FileMetadata) (before xs : List TableBatch) (bytes : List ℕ) : Type 0 where
  pub read : file_reading to_read b «all» (Some (length xs)) ≡ Ok (part_of m xs)
  pub not_ended : unended bytes
  pub stream : stream_table bytes None ≡ Some (with_batches x.head (before ++ xs))

-- the batch behind those that were put is too large
pub record NextTooLarge (b : List ℕ) (m : FileMetadata) (before xs : List TableBatch) (bytes : List ℕ) : Type 0 where
  pub next : TableBatch
  pub read : file_reading to_read b «all» (Some (suc (length xs))) ≡ Ok (part_of m (xs ++ next ∷ []))
  pub pairs : StreamPairs
  pub writer : StreamCore
  pub options : writer.options ≡ send_options
  pub written : IsWritten pairs writer bytes (before ++ xs)
  pub batch : Batch
  pub cells : cells_of batch ≡ next
  pub sending : Sending
  pub found : found_before writer batch ≡ Ok sending
  pub large : RefusesChunk TooLarge writer.options sending.sent batch

-- why nothing stands behind them
abbrev pub StopsNext : IpcError → List ℕ → FileMetadata → List TableBatch → List TableBatch → List ℕ → Type 0
StopsNext e b m before xs bytes = (Refuses e (refusals (file_reading to_read b «all» None)) × Refuses e (refusals (file_reading to_read b «all» (Some (suc (length xs))))))
    ⊎ ((e ≡ TooLarge) × NextTooLarge b m before xs bytes)

-- A file is refused behind batches that were put: what stands there is the stream up to them, or, where a put failed, a part of it.
pub data StopsFile (e : IpcError) (x : Start) (b : List ℕ) (m : FileMetadata) (before : List TableBatch) (now : Option (List ℕ)) (wants wants' : ℕ) : Type 0 where
  behind_put : {xs : List TableBatch} {bytes : List ℕ} → IsPut x b m before xs bytes → Appends x.before now (text_of x.encoding bytes) → StopsNext e b m before xs bytes
      → StopsFile e x b m before now wants wants'
  in_next : {xs : List TableBatch} {bytes : List ℕ} → IsPut x b m before xs bytes → IsOfPut e wants wants' → AppendsPrefix x.before now (text_of x.encoding bytes) → StopsFile e x b m before now wants wants'

-- one batch more, or none is left
pub record AddsNext (x : Start) (b : List ℕ) (c c' : FileCursor) (s' : JoinedStream) (before : List TableBatch) (now : Option (List ℕ)) : Type 0 where
  pub xs : List TableBatch
  pub read : HasReadBlocks b c' xs
  pub holds : Holds x s' now (before ++ xs)
  pub further : (c'.block ≡ suc c.block) ⊎ (length (meta_view c'.metadata).blocks ≤ c'.block)

abbrev pub NextAdded : Result (Unit {0}) IpcError → Start → List ℕ → FileCursor → FileCursor → JoinedStream → List TableBatch → Option (List ℕ) → ℕ → ℕ → Type 0
NextAdded (Ok u) x b c c' s' before now wants wants' = AddsNext x b c c' s' before now
NextAdded (Err e) x b c c' s' before now wants wants' = StopsFile e x b c.metadata before now wants wants'

-- all of a file's batches
pub record AddsFile (x : Start) (b : List ℕ) (c : FileCursor) (s' : JoinedStream) (before : List TableBatch) (now : Option (List ℕ)) : Type 0 where
  pub xs : List TableBatch
  pub means : file_table b «all» ≡ Some (part_of c.metadata xs)
  pub holds : Holds x s' now (before ++ xs)

abbrev pub FileAdded : Result (Unit {0}) IpcError → Start → List ℕ → FileCursor → JoinedStream → List TableBatch → Option (List ℕ) → ℕ → ℕ → Type 0
FileAdded (Ok u) x b c s' before now wants wants' = AddsFile x b c s' before now
FileAdded (Err e) x b c s' before now wants wants' = StopsFile e x b c.metadata before now wants wants'

-- ── all files ──

-- a table has the pairs and fields of another without batches
abbrev pub HasHead : ArrowTable → ArrowTable → Type 0
HasHead head t = with_batches t [] ≡ head

-- the first of some tables has
abbrev pub BeginTables : ArrowTable → List ArrowTable → Type 0
BeginTables head [] = ⊤
BeginTables head (t ∷ ts) = HasHead head t

-- tables of some files, of which the first has the stream's pairs and all have its fields
pub record AreOf (x : Start) (bs : List (List ℕ)) (ts : List ArrowTable) : Type 0 where
  pub tables : AreTables bs ts
  pub first : BeginTables x.head ts
  pub same : AllByRecursion (λ (t : ArrowTable). t.fields ≡ x.head.fields) ts

pub record AddsFiles (x : Start) (bs : List (List ℕ)) (s' : JoinedStream) (now : Option (List ℕ)) : Type 0 where
  pub ts : List ArrowTable
  pub are : AreOf x bs ts
  pub holds : Holds x s' now (batches_in ts)

abbrev pub FilesAdded : Result (Unit {0}) IpcError → Start → List (List ℕ) → JoinedStream → Option (List ℕ) → ℕ → ℕ → Type 0
FilesAdded (Ok u) x bs s' now wants wants' = AddsFiles x bs s' now
FilesAdded (Err e) x bs s' now wants wants' = AddsPart e bs (text_of x.encoding) x.before now wants wants'
