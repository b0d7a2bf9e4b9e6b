-- A file of a stream's schema and record batches as it is written. (Arrow Columnar Format, "IPC File Format".)
use Rattle.std.specs.Prelude.{◌≡◌, ◌⊎◌, ◌++◌, ◌∷◌, ℕ, ℤ, List, [], map, true, ⊤, Option, None, Some, Result, Ok, Err, length}
use Rattle.std.specs.Io.KnownBytes.{Appends, Keeps}
use Rattle.std.specs.Rc.{rc_value}
use Rattle.arrow_spec.specs.declared.error.IpcError.{IpcError}
use Rattle.arrow_spec.specs.declared.error.IpcError.TheVariants as errors
use Rattle.arrow_spec.specs.Counts.{magnitude}
use Rattle.arrow_spec.specs.Features.{chosen_floats}
use Rattle.arrow_spec.specs.Files.{ArrowTable, TableBatch, «all»}
use Rattle.arrow_spec.specs.Kinds.{bare}
use Rattle.arrow_spec.specs.Meaning.{file_table}
use Rattle.arrow_spec.specs.Readings.{IsAmong, refusals}
use Rattle.arrow_types.specs.Schemas.{fields_in}
use Rattle.arrow_arrays.specs.Batches.{Batch}
use Rattle.arrow_arrays.specs.Parts.{forest}
use Rattle.ipc_fields.specs.IpcFields.{metadata_of}
use Rattle.ipc_io.specs.Outside.{Rose}
use Rattle.schema_writer.specs.Defaults.{IsNumbered}
use Rattle.ipc_append.specs.Below.{Sending, held_by, RefusesMore, ending_of, file_ids, file_schema, found_before, start_of, HasNothing, IsFile, cells_by, FileCore, WriteOptions, MayBeWritten, stream_schema, StreamMetadata}
use Rattle.laws_walk.specs.Below.{cells_of, is_new, is_started, table_of}
use Rattle.ipc_append.specs.Columns.{is_of}
use Rattle.ipc_append.specs.Wholes.{table_read}
use Rattle.ipc_append.specs.declared.stream.WholeStream.{WholeStream}
use Rattle.laws_walk.specs.Summaries.{IsSummary}
use Rattle.laws_walk.specs.declared.summary.Summary.{Summary}
use Rattle.ipc_unify.specs.Below.{AreOver, Lists}

-- nothing is compressed, metadata is as long as it may be, and dictionaries that go on are written as deltas
abbrev pub file_options : WriteOptions
file_options = record { compression = None; metadata_limit = 2147483647; deltas = true }

-- the table of a stream's schema and pairs, and of batches
abbrev pub table_of_stream : StreamMetadata → List TableBatch → ArrowTable
table_of_stream m bs = record { metadata = (stream_schema m).metadata; custom = metadata_of m.custom_metadata; fields = bare (stream_schema m).fields; batches = bs }

-- a writer of a file that has a stream's schema and pairs, under ids that count from 0
pub record IsFileOf (m : StreamMetadata) (c : FileCore) : Type 0 where
  pub options : c.options ≡ file_options
  pub schema : file_schema c ≡ rc_value m.schema
  pub ids : IsNumbered (fields_in (rc_value m.schema)) (file_ids c)
  pub own : metadata_of c.pairs.schema ≡ (stream_schema m).metadata
  pub custom : metadata_of c.pairs.footer ≡ metadata_of m.custom_metadata

-- all but the pairs stays
pub record OnlyPairs (old new : FileCore) : Type 0 where
  pub options : new.options ≡ old.options
  pub state : new.state ≡ old.state
  pub schema : new.schema ≡ old.schema
  pub ipc_schema : new.ipc_schema ≡ old.ipc_schema
  pub tracker : new.tracker ≡ old.tracker
  pub blocks : new.blocks ≡ old.blocks

-- before anything was put
pub record IsNewOf (m : StreamMetadata) (c : FileCore) : Type 0 where
  pub file : IsFileOf m c
  pub state : is_new c.state ≡ true
  pub nothing : HasNothing c

-- under each id nothing is held, or its list
abbrev pub HoldsOnly : Lists → FileCore → Type 0
HoldsOnly us c = (q : ℤ) → (held_by c.tracker q ≡ None) ⊎ (held_by c.tracker q ≡ Some (us (magnitude q)))

-- a file that was begun, with some batches
pub record IsFront (m : StreamMetadata) (c : FileCore) (x : List ℕ) (bs : List Batch) : Type 0 where
  pub file : IsFileOf m c
  pub started : is_started c.state ≡ true
  pub means : IsFile (cells_by c) c x (map cells_of bs)

-- its bytes stand in a sink, behind those before them
pub record HasPut (m : StreamMetadata) (c : FileCore) (old now : Option (List ℕ)) (bs : List Batch) : Type 0 where
  pub bytes : List ℕ
  pub front : IsFront m c bytes bs
  pub added : Appends old now bytes

-- it was begun, and nothing is held
pub record HasBegun (m : StreamMetadata) (c : FileCore) (old now : Option (List ℕ)) : Type 0 where
  pub put : HasPut m c old now []
  pub none : (q : ℤ) → held_by c.tracker q ≡ None

-- a file of a stream that was read goes on: its writer holds of dictionaries nothing but such lists
pub record IsGoing (m : StreamMetadata) (us : Lists) (c : FileCore) (old now : Option (List ℕ)) (bs : List Batch) : Type 0 where
  pub may : MayBeWritten m
  pub put : HasPut m c old now bs
  pub holds : HoldsOnly us c

-- a batch is one of the file's, over the lists
pub record IsNext (m : StreamMetadata) (us : Lists) (b : Batch) : Type 0 where
  pub kinds : is_of (fields_in (rc_value m.schema)) b ≡ true
  pub over : AreOver us (forest b.arrays) 0

-- A part of a file is too large: the message of its schema, or one of a batch or of what of the batch's dictionaries was not written yet, or its place, or the footer.
pub data IsTooLarge (m : StreamMetadata) (bs : List Batch) : Type 0 where
  in_schema : {c : FileCore} → IsNewOf m c → IsAmong (refusals (start_of c)) errors.TooLarge → IsTooLarge m bs
  in_batch : {c : FileCore} {x : List ℕ} {before : List Batch} {b : Batch} {sending : Sending} (behind : List Batch) → bs ≡ before ++ b ∷ behind → IsFront m c x before → found_before c b ≡ Ok sending → RefusesMore errors.TooLarge c sending.sent b → IsTooLarge m bs
  in_footer : {c : FileCore} {x : List ℕ} → IsFront m c x bs → IsAmong (refusals (ending_of c)) errors.TooLarge → IsTooLarge m bs

-- why no file is written: memory was wanted, or the sink failed, whose count rose, or a part is too large, or a kind is never read, before anything was put
abbrev pub StopsFile : IpcError → StreamMetadata → List Batch → Option (List ℕ) → Option (List ℕ) → ℕ → ℕ → Type 0
StopsFile errors.Memory m bs old now faults faults' = ⊤
StopsFile errors.WriteFault m bs old now faults faults' = Rose faults faults'
StopsFile errors.TooLarge m bs old now faults faults' = IsTooLarge m bs
StopsFile (errors.Unsupported feature) m bs old now faults faults' = IsAmong (chosen_floats None (stream_schema m).fields 0) (errors.Unsupported feature) × Keeps old now
StopsFile e m bs old now faults faults' = ⊥

-- why a batch is not written behind others, whatever stands behind it
abbrev pub StopsBatch : IpcError → StreamMetadata → List Batch → Batch → Option (List ℕ) → Option (List ℕ) → ℕ → ℕ → Type 0
StopsBatch e m before b old now faults faults' = (behind : List Batch) → StopsFile e m (before ++ b ∷ behind) old now faults faults'

-- A whole file was added, which means the table of a stream that was read.
pub record WritesFile (s : Summary) (u : WholeStream) (old new : Option (List ℕ)) : Type 0 where
  pub bytes : List ℕ
  pub file : file_table bytes «all» ≡ Some (table_read u)
  pub added : Appends old new bytes
  pub summary : IsSummary s (table_read u) bytes

-- all batches were written, or one was not
abbrev pub WritesAll : Result ℕ IpcError → StreamMetadata → Lists → FileCore → Option (List ℕ) → Option (List ℕ) → List Batch → ℕ → ℕ → Type 0
WritesAll (Ok rows) m us c old now bs faults faults' = IsGoing m us c old now bs
WritesAll (Err e) m us c old now bs faults faults' = StopsFile e m bs old now faults faults'

-- a file of so many bytes was ended, behind bytes before it, which means the table of its batches
pub record IsEnded (n : ℕ) (m : StreamMetadata) (old now : Option (List ℕ)) (bs : List Batch) : Type 0 where
  pub bytes : List ℕ
  pub file : file_table bytes «all» ≡ Some (table_of_stream m (map table_of bs))
  pub added : Appends old now bytes
  pub count : n ≡ length bytes

-- or it is not
abbrev pub EndsFile : Result ℕ IpcError → StreamMetadata → Option (List ℕ) → Option (List ℕ) → List Batch → ℕ → ℕ → Type 0
EndsFile (Ok n) m old now bs faults faults' = IsEnded n m old now bs
EndsFile (Err e) m old now bs faults faults' = StopsFile e m bs old now faults faults'
