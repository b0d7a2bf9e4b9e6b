-- log [--append] [--raw] TARGET: the table of a log as a stream, or the batches of the input's stream at a log's end.
use Rattle.std.specs.Prelude.{◌≡◌, ◌⊎◌, ◌≤◌, ⊤, ℕ, Bool, true, false, List, [], ◌∷◌, length, Option, None, Some, IfSome, IsSomeAnd}
use Rattle.std.specs.Io.KnownBytes.{Appends, Keeps}
use Rattle.arrow_spec.specs.declared.error.IpcError.{IpcError}
use Rattle.arrow_spec.specs.declared.error.IpcError.TheVariants as errors
use Rattle.arrow_spec.specs.Files.{ArrowTable}
use Rattle.arrow_spec.specs.Streams.{closed, stream_table}
use Rattle.arrow_spec.specs.Words.{Held}
use Rattle.ipc_round_trip.specs.Below.{WholeStream}
use Rattle.ipc_disk.specs.Places.{IsReplaced}
use Rattle.ipc_io.specs.Outside.{AppendsPrefix, IsHeld, Rose}
use Rattle.ipc_bodies.specs.Encodings.{text_of}
use Rattle.ipc_log_disk.specs.Crashes.{Images, SameImages}
use Rattle.ipc_log_streams.specs.Appends.{IsBefore, StopsAppend, batches_of, fields_of}
use Rattle.ipc_log_streams.specs.Below.{MeansFront, MeansLog, invalid_log, with_batches, IsOfPut}
use Rattle.ipc_log_streams.specs.Streams.{AddsLog, AddsPart, BatchIsLarge, IsReadable, RefusesSchema}
use Rattle.ipc_words.specs.Requests.{Log}
use Rattle.ipc_tool.specs.Commands.Append.{AddsCount, CountRefused, IsReadStream, KeepsOthers, NotOpened, StopsAtInput, count_text}
use Rattle.ipc_tool.specs.Commands.Stream.{encoding_of, shown_as}
use Rattle.ipc_tool.specs.Outside.{Outside}
use Rattle.ipc_tool.specs.Tasks.{Task}
use Rattle.ipc_tool.specs.declared.refusal.Refusal.{Refusal}
use Rattle.ipc_tool.specs.declared.refusal.Refusal.TheVariants.{Ipc}

-- something stands under a name, and P holds of it, where what is held is told
abbrev pub OfTarget : (List ℕ → Type 0) → List ℕ → Outside → Type 0
OfTarget P target old = IfSome old.held (λ held. IsSomeAnd (held target) P)

-- each name keeps its bytes, where they are told
abbrev pub KeepsAll : Option Held → Option Held → Type 0
KeepsAll None new = new ≡ None
KeepsAll (Some held) None = ⊥
KeepsAll (Some held) (Some held') = (name : List ℕ) → held' name ≡ held name

-- ── the table of a log as a stream ──

-- what a refusal added, and why: what putting the log leaves, or, where the line feed behind hex text was not put, a part of a whole stream's text
pub data AddsShown (e : IpcError) (b : List ℕ) (raw : Bool) (old new : Option (List ℕ)) (wants wants' : ℕ) : Type 0 where
  in_stream : AddsPart e b (text_of (encoding_of raw)) old new wants wants' → AddsShown e b raw old new wants wants'
  at_line_feed : {t : ArrowTable} (x : List ℕ) → raw ≡ false → IsOfPut e wants wants' → MeansLog b t → closed x → stream_table x None ≡ Some t → AppendsPrefix old new (shown_as raw x) → AddsShown e b raw old new wants wants'

-- which errors the bytes of a log may be refused with: they are no log's, or its schema is refused, or a message of a batch is too large
pub data MayShow (e : IpcError) (b : List ℕ) : Type 0 where
  no_log : e ≡ invalid_log → ((t : ArrowTable) → MeansLog b t → ⊥) → MayShow e b
  at_schema : {t : ArrowTable} → MeansLog b t → RefusesSchema e t → MayShow e b
  at_batch : {t : ArrowTable} {count : ℕ} → MeansLog b t → e ≡ errors.TooLarge → BatchIsLarge t count → MayShow e b

-- what stands on the shelf behind a refusal: what stood there, but under the target where a sync may have failed
abbrev pub KeepsShelf : IpcError → List ℕ → Option Held → Option Held → Type 0
KeepsShelf errors.WriteFault target old new = KeepsOthers target old new
KeepsShelf errors.Memory target old new = KeepsOthers target old new
KeepsShelf e target old new = KeepsAll old new

-- what a refusal leaves: until the log is opened nothing was added
pub data LeavesShow (e : IpcError) (raw : Bool) (target : List ℕ) (old new : Outside) : Type 0 where
  in_opening : (e ≡ errors.ReadFault) ⊎ (e ≡ errors.Memory) → Keeps old.written new.written → new.held ≡ old.held → LeavesShow e raw target old new
  in_log : OfTarget (λ b. AddsShown e b raw old.written new.written old.output_wants new.output_wants) target old → KeepsShelf e target old.held new.held → LeavesShow e raw target old new

abbrev pub ShowLeft : Refusal → Bool → List ℕ → Outside → Outside → Type 0
ShowLeft (Ipc e) raw target old new = LeavesShow e raw target old new
ShowLeft _ raw target old new = Keeps old.written new.written × (new.held ≡ old.held)

-- a log's stream was added, and the shelf is as it was
pub record IsShown (raw : Bool) (target : List ℕ) (old new : Outside) : Type 0 where
  pub added : OfTarget (λ b. AddsLog b (shown_as raw) old.written new.written) target old
  pub kept : KeepsAll old.held new.held

-- Where the bytes are a log's whose fields can be read, only a message that is too large is refused.
abbrev pub show_task : Bool → List ℕ → Task
show_task raw target = record {
  reads = false;
  opens = target ∷ [];
  first = Some target;
  done = IsShown raw target;
  may = λ e old. OfTarget (MayShow e) target old;
  left = λ e old new. ShowLeft e raw target old new;
  must = λ old. IsSomeAnd old.held (λ held. IsSomeAnd (held target) IsReadable);
  still = λ e old. e ≡ Ipc errors.TooLarge;
  statuses = λ status. (status ≤ 4) ⊎ ((status ≡ 6) ⊎ (11 ≤ status));
  read_failed = λ old new. Rose old.shelf_faults new.shelf_faults;
  write_failed = λ old new. Rose old.shelf_faults new.shelf_faults ⊎ Rose old.output_faults new.output_faults;
  keeps = KeepsOthers target;
}

-- ── batches at a log's end ──

-- the stream's batches stand behind those of the log under a name, which was begun with its schema where nothing stood there
pub record LogAppended (target : List ℕ) (old new : Option Held) (s : WholeStream) : Type 0 where
  pub content : Option (List ℕ)
  pub behind : Option (List ℕ)
  pub was : IsHeld old target content
  pub is : IsReplaced old new target behind
  pub appended : IfSome content (λ b. (t : ArrowTable) × IsBefore b (fields_of s) t × IsSomeAnd behind (λ c. MeansLog c (with_batches t (batches_of s))))

-- What a refusal says. A fault comes only where the count of them rose, and `SchemaMismatch` only where the log's fields are others than the stream's.
abbrev pub LogSays : IpcError → Option (List ℕ) → WholeStream → ℕ → ℕ → Type 0
LogSays errors.ReadFault content s faults faults' = Rose faults faults'
LogSays errors.WriteFault content s faults faults' = Rose faults faults'
LogSays errors.SchemaMismatch content s faults faults' = (b : List ℕ) (t : ArrowTable) → content ≡ Some b → MeansLog b t → t.fields ≡ fields_of s → ⊥
LogSays errors.NotRepresentable content s faults faults' = ⊥
LogSays (errors.Projection index) content s faults faults' = ⊥
LogSays (errors.DictionaryReplaced id) content s faults faults' = ⊥
LogSays errors.State content s faults faults' = ⊥
LogSays e content s faults faults' = ⊤

-- The stream was not appended, and the log was closed as that left it. Its failures are told by the shelf's count.
pub record LogNotAppended (target : List ℕ) (e : IpcError) (old new : Option Held) (s : WholeStream) (faults faults' : ℕ) : Type 0 where
  pub content : Option (List ℕ)
  pub behind : Option (List ℕ)
  pub was : IsHeld old target content
  pub failures : ℕ
  pub refused : StopsAppend e s content behind 0 failures
  pub says : LogSays e content s faults faults'
  pub is : IsReplaced old new target behind

-- why nothing more is appended under the name
abbrev pub LogRefused : List ℕ → Refusal → Option Held → Option Held → WholeStream → ℕ → ℕ → Type 0
LogRefused target e old new s faults faults' = NotOpened target e old new faults faults'
    ⊎ ((x : IpcError) × (e ≡ Ipc x) × LogNotAppended target x old new s faults faults')

-- the input's stream was appended, and the number of its batches added to the output
pub record IsLogged (target : List ℕ) (old new : Outside) : Type 0 where
  pub stream : WholeStream
  pub read : IsReadStream old.rest stream
  pub place : LogAppended target old.held new.held stream
  pub text : Appends old.written new.written (count_text (length stream.batches.items))

-- not all of it was appended
pub record StopsAtLog (e : Refusal) (target : List ℕ) (old new : Outside) : Type 0 where
  pub stream : WholeStream
  pub read : IsReadStream old.rest stream
  pub place : LogRefused target e old.held new.held stream old.shelf_faults new.shelf_faults
  pub written : Keeps old.written new.written

-- all of it was, and the number of its batches was not put
pub record StopsAtLogCount (e : Refusal) (target : List ℕ) (old new : Outside) : Type 0 where
  pub stream : WholeStream
  pub read : IsReadStream old.rest stream
  pub place : LogAppended target old.held new.held stream
  pub count : CountRefused e (length stream.batches.items) old.written new.written old.output_faults new.output_faults

-- the first step that is refused: why, and what that left
abbrev pub LogStops : Refusal → List ℕ → Outside → Outside → Type 0
LogStops e target old new = StopsAtInput e old new ⊎ (StopsAtLog e target old new ⊎ StopsAtLogCount e target old new)

-- the fields of the log under the name are others than those of the input's stream
pub record HasOtherLog (target : List ℕ) (old : Outside) : Type 0 where
  pub stream : WholeStream
  pub read : IsReadStream old.rest stream
  pub content : Option (List ℕ)
  pub was : IsHeld old.held target content
  pub others : LogSays errors.SchemaMismatch content stream 0 0

-- A mismatch of schemas is of fields that differ. A column that is not there, dictionaries that cannot be said or replaced and a state of a writer are never told. Of other errors the step says why.
abbrev pub LogMay : IpcError → List ℕ → Outside → Type 0
LogMay errors.SchemaMismatch target old = HasOtherLog target old
LogMay errors.NotRepresentable target old = ⊥
LogMay (errors.Projection index) target old = ⊥
LogMay (errors.DictionaryReplaced id) target old = ⊥
LogMay errors.State target old = ⊥
LogMay e target old = ⊤

-- No append has to be done.
abbrev pub log_append_task : List ℕ → Task
log_append_task target = record {
  reads = true;
  opens = target ∷ [];
  first = None;
  done = IsLogged target;
  may = λ e old. LogMay e target old;
  left = λ e old new. AddsCount e old new × LogStops e target old new;
  must = λ old. ⊥;
  still = λ e old. ⊥;
  statuses = λ status. (status ≤ 4) ⊎ (((6 ≤ status) × (status ≤ 7)) ⊎ (11 ≤ status));
  read_failed = λ old new. Rose old.input_faults new.input_faults ⊎ Rose old.shelf_faults new.shelf_faults;
  write_failed = λ old new. Rose old.shelf_faults new.shelf_faults ⊎ Rose old.output_faults new.output_faults;
  keeps = KeepsOthers target;
}

-- ── the command ──

abbrev pub task_by : Bool → Bool → List ℕ → Task
task_by true raw target = log_append_task target
task_by false raw target = show_task raw target

abbrev pub log_task : Log → Task
log_task s = task_by s.appends s.raw s.target

-- ── crashes ──

-- what a crash leaves of a log's table: it, or, where the input's stream is appended, it with some of that stream's batches, from the first on, whole
abbrev pub LeavesTable : Bool → Option (List ℕ) → ArrowTable → List ℕ → Type 0
LeavesTable true rest t c = (s : WholeStream) × IsReadStream rest s × MeansFront t (batches_of s) c
LeavesTable false rest t c = MeansLog c t

-- Nothing was opened as a log, or what a crash might have left of it, at any moment while it was open, means its table so, where it was a log.
abbrev pub SurvivesAs : Bool → List ℕ → Outside → Images → Images → Type 0
SurvivesAs appends target old left left' = SameImages left left' ⊎ OfTarget (λ b. (t : ArrowTable) (c : List ℕ) → MeansLog b t → left' c → LeavesTable appends old.rest t c) target old

abbrev pub Survives : Log → Outside → Images → Images → Type 0
Survives s old left left' = SurvivesAs s.appends s.target old left left'

-- the same of a stream that was read
abbrev pub SurvivesOver : WholeStream → List ℕ → Option Held → Images → Images → Type 0
SurvivesOver s target held left left' = SameImages left left' ⊎ IfSome held (λ h. IsSomeAnd (h target) (λ b. (t : ArrowTable) (c : List ℕ) → MeansLog b t → left' c → MeansFront t (batches_of s) c))
