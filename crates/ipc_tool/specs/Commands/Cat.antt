-- cat [--raw] NAME..: files of the same fields as one stream.
use Rattle.std.specs.Prelude.{◌≡◌, ◌⊎◌, ◌<◌, ◌≤◌, ⊤, ℕ, Bool, false, List, [], ◌∷◌, ◌++◌, map, Option, Some, None, IfSome, IsSomeAnd}
use Rattle.std.specs.Io.KnownBytes.{Appends, Keeps}
use Rattle.arrow_spec.specs.declared.error.IpcError.{IpcError}
use Rattle.arrow_spec.specs.declared.error.IpcError.TheVariants as errors
use Rattle.arrow_spec.specs.Streams.{closed}
use Rattle.arrow_spec.specs.Words.{Held}
use Rattle.ipc_io.specs.Outside.{AppendsPrefix, IsHeld, Rose}
use Rattle.ipc_bodies.specs.Encodings.{text_of}
use Rattle.ipc_log_streams.specs.Below.{AddsPart, AreJoined, IsOfPut, AreOpen, StopsOpening, StopsStart, IsFront, StopsBehind, MeanTables, told}
use Rattle.ipc_words.specs.Requests.{Cat}
use Rattle.ipc_tool.specs.Commands.Stream.{encoding_of, shown_as}
use Rattle.ipc_tool.specs.Outside.{Outside}
use Rattle.ipc_tool.specs.Tasks.{Task}
use Rattle.ipc_tool.specs.declared.refusal.Refusal.{Refusal}
use Rattle.ipc_tool.specs.declared.refusal.Refusal.TheVariants.{Ipc, NoName}

-- ── what stands under the names ──

-- the bytes under each of several names, where something stands under all of them
abbrev pub held_under : Held → List (List ℕ) → Option (List (List ℕ))
held_under held names = told (map held names)

-- P holds of them, where it is told what is held
abbrev pub OfNames : (List (List ℕ) → Type 0) → List (List ℕ) → Outside → Type 0
OfNames P names old = IfSome old.held (λ held. IsSomeAnd (held_under held names) P)

-- each of these is what is told of the bytes under a name
abbrev pub AreHeld : Option Held → List (List ℕ) → List (Option (List ℕ)) → Type 0
AreHeld held [] [] = ⊤
AreHeld held [] (content ∷ contents) = ⊥
AreHeld held (name ∷ names) [] = ⊥
AreHeld held (name ∷ names) (content ∷ contents) = IsHeld held name content × AreHeld held names contents

-- why files are not opened: a name is not there, or a device failed, or memory was wanting
abbrev pub WhyNotOpened : Refusal → Type 0 → ℕ → ℕ → Type 0
WhyNotOpened NoName is_missing faults faults' = is_missing
WhyNotOpened (Ipc errors.ReadFault) is_missing faults faults' = Rose faults faults'
WhyNotOpened (Ipc errors.Memory) is_missing faults faults' = ⊤
WhyNotOpened _ is_missing faults faults' = ⊥

-- a file was opened behind others, and has not failed
pub record OpensNext {F : Type 0} (content_of : F → Option (List ℕ)) (faults_of : F → ℕ) (held : Option Held) (name : List ℕ) (files files' : List F) : Type 0 where
  pub file : F
  pub is : files' ≡ files ++ file ∷ []
  pub content : IsHeld held name (content_of file)
  pub no_faults : faults_of file ≡ 0

-- none of several files has failed, and one of them has
abbrev pub NoneHasFailed : List ℕ → Type 0
NoneHasFailed [] = ⊤
NoneHasFailed (failures ∷ others) = (failures ≡ 0) × NoneHasFailed others

abbrev pub OneHasFailed : List ℕ → Type 0
OneHasFailed [] = ⊥
OneHasFailed (failures ∷ others) = (0 < failures) ⊎ OneHasFailed others

-- ── what is added ──

-- the text of one whole stream of all files was added, closed, and shown as asked
pub record AddsAll (bs : List (List ℕ)) (raw : Bool) (old new : Option (List ℕ)) : Type 0 where
  pub bytes : List ℕ
  pub is_closed : closed bytes
  pub joins : AreJoined bs bytes
  pub added : Appends old new (shown_as raw bytes)

-- what a refusal added, and why: what joining the files leaves, or, where the line feed behind hex text was not put, a part of a whole stream's text
pub data AddsCat (e : IpcError) (bs : List (List ℕ)) (raw : Bool) (old new : Option (List ℕ)) (wants wants' : ℕ) : Type 0 where
  in_joining : AddsPart e bs (text_of (encoding_of raw)) old new wants wants' → AddsCat e bs raw old new wants wants'
  at_line_feed : {x : List ℕ} → raw ≡ false → IsOfPut e wants wants' → closed x → AreJoined bs x → AppendsPrefix old new (shown_as raw x) → AddsCat e bs raw old new wants wants'

-- which errors the bytes of several files may be refused with: of the first file whose metadata is refused, or whose fields are others;
-- of the schema; or of the first file whose dictionaries or blocks are refused, or of which a message is too large
pub data MayCat (e : IpcError) (bs : List (List ℕ)) : Type 0 where
  in_metadata : StopsOpening e bs → MayCat e bs
  in_schema : AreOpen bs → StopsStart e bs → MayCat e bs
  in_file : {x : List ℕ} → AreOpen bs → (front : IsFront bs x) → StopsBehind e front → MayCat e bs

-- what a refusal leaves: until all names are opened nothing was added
pub data LeavesCat (e : IpcError) (s : Cat) (old new : Outside) : Type 0 where
  in_opening : (e ≡ errors.ReadFault) ⊎ (e ≡ errors.Memory) → Keeps old.written new.written → LeavesCat e s old new
  in_stream : OfNames (λ bs. AddsCat e bs s.raw old.written new.written old.output_wants new.output_wants) s.names old → LeavesCat e s old new

abbrev pub CatLeft : Refusal → Cat → Outside → Outside → Type 0
CatLeft (Ipc e) s old new = LeavesCat e s old new
CatLeft _ s old new = Keeps old.written new.written

-- ── the task ──

abbrev pub first_name : List (List ℕ) → Option (List ℕ)
first_name [] = None
first_name (name ∷ names) = Some name

-- All files are opened in the order of their names, before any of them is read. Where they mean tables of the same fields, only a message that is too large is refused.
abbrev pub cat_task : Cat → Task
cat_task s = record {
  reads = false;
  opens = s.names;
  first = first_name s.names;
  done = λ old new. OfNames (λ bs. AddsAll bs s.raw old.written new.written) s.names old;
  may = λ e old. OfNames (MayCat e) s.names old;
  left = λ e old new. CatLeft e s old new;
  must = λ old. IsSomeAnd old.held (λ held. IsSomeAnd (held_under held s.names) MeanTables);
  still = λ e old. e ≡ Ipc errors.TooLarge;
  statuses = λ status. (status ≤ 4) ⊎ ((status ≡ 6) ⊎ (status ≡ 7)) ⊎ (11 ≤ status);
  read_failed = λ old new. Rose old.shelf_faults new.shelf_faults;
  write_failed = λ old new. Rose old.output_faults new.output_faults;
  keeps = λ old new. new ≡ old;
}
