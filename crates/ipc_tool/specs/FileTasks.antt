-- Commands on one file: what stands under a name, or what the input's hex text stands for.
use Rattle.std.specs.Prelude.{◌≡◌, ◌⊎◌, ◌≤◌, ℕ, List, Bool, ⊤, Option, Some, None, IfSome, IsSome, IsSomeAnd, is_none, option_to_list}
use Rattle.std.specs.Io.KnownBytes.{Keeps}
use Rattle.arrow_spec.specs.declared.error.IpcError.{IpcError}
use Rattle.arrow_spec.specs.declared.error.IpcError.TheVariants as errors
use Rattle.arrow_spec.specs.Words.{source_of}
use Rattle.ipc_io.specs.Outside.{Rose}
use Rattle.ipc_tool.specs.Outside.{Outside}
use Rattle.ipc_tool.specs.Tasks.{Task}
use Rattle.ipc_tool.specs.declared.refusal.Refusal.{Refusal}
use Rattle.ipc_tool.specs.declared.refusal.Refusal.TheVariants.{Ipc}

-- what is put of a file's bytes
pub record FileJob : Type 1 where
  -- what the bytes added to the output
  pub done : List ℕ → Option (List ℕ) → Option (List ℕ) → Type 0
  -- which errors the bytes may be refused with
  pub may : IpcError → List ℕ → Type 0
  -- what a refusal left of the bytes, where they are told, in the output, whose wants may have risen
  pub left : IpcError → Option (List ℕ) → Option (List ℕ) → Option (List ℕ) → ℕ → ℕ → Type 0
  -- of which bytes it has to be done, but for want of memory and the errors that are possible still
  pub must : List ℕ → Type 0
  pub still : IpcError → List ℕ → Type 0
  -- the statuses of what the bytes are refused with
  pub statuses : ℕ → Type 0

-- why a put is refused: by a count, or by what the bytes say, where they are told
abbrev pub PutCause : FileJob → IpcError → Option (List ℕ) → ℕ → ℕ → ℕ → ℕ → Type 0
PutCause job errors.ReadFault content reads reads' writes writes' = Rose reads reads'
PutCause job errors.WriteFault content reads reads' writes writes' = Rose writes writes'
PutCause job errors.Memory content reads reads' writes writes' = ⊤
PutCause job e content reads reads' writes writes' = IfSome content (job.may e)

-- the statuses of a job: its own, and those of devices, of memory, of the input and of names
abbrev pub IsStatusOf : FileJob → ℕ → Type 0
IsStatusOf job status = job.statuses status ⊎ (11 ≤ status)

-- the source's bytes, if there are any, where that is told
abbrev pub source_in : Option (List ℕ) → Outside → Option (Option (List ℕ))
source_in name old = source_of name old.held old.rest

-- the device of a source failed: the shelf where a name is given, and else the input
abbrev pub SourceFailed : Option (List ℕ) → Outside → Outside → Type 0
SourceFailed None old new = Rose old.input_faults new.input_faults
SourceFailed (Some name) old new = Rose old.shelf_faults new.shelf_faults

-- there are bytes of the source and P holds of them, where that is told
abbrev pub OfSource : (List ℕ → Type 0) → Option (List ℕ) → Outside → Type 0
OfSource P name old = IfSome (source_in name old) (λ bytes. IsSomeAnd bytes P)

-- content is the source's bytes, as far as either is told
abbrev pub IsOfSource : Option (Option (List ℕ)) → Option (List ℕ) → Type 0
IsOfSource source content = IfSome source (λ bytes. IsSome bytes × (bytes ≡ content))

-- the source was not had, and nothing was added
pub record LeftBefore (e : IpcError) (old new : Outside) : Type 0 where
  pub is : (e ≡ errors.ReadFault) ⊎ (e ≡ errors.Memory)
  pub kept : Keeps old.written new.written

-- the put of the source's bytes was refused
pub record LeftByPut (job : FileJob) (name : Option (List ℕ)) (e : IpcError) (old new : Outside) : Type 0 where
  pub content : Option (List ℕ)
  pub is : IsOfSource (source_in name old) content
  pub left : job.left e content old.written new.written old.output_wants new.output_wants

-- what a refusal left: what is not of the library came before the bytes were had, and added nothing
abbrev pub FileLeft : FileJob → Option (List ℕ) → Refusal → Outside → Outside → Type 0
FileLeft job name (Ipc e) old new = LeftBefore e old new ⊎ LeftByPut job name e old new
FileLeft job name _ old new = Keeps old.written new.written

abbrev pub FileStill : FileJob → Option (List ℕ) → Refusal → Outside → Type 0
FileStill job name (Ipc e) old = OfSource (job.still e) name old
FileStill job name _ old = ⊥

-- a job on the file under a name, or on the input's
abbrev pub file_task : FileJob → Option (List ℕ) → Task
file_task job name = record {
  reads = is_none name;
  opens = option_to_list name;
  first = name;
  done = λ old new. OfSource (λ b. job.done b old.written new.written) name old;
  may = λ e old. OfSource (job.may e) name old;
  left = FileLeft job name;
  must = λ old. IsSomeAnd (source_in name old) (λ bytes. IsSomeAnd bytes job.must);
  still = FileStill job name;
  statuses = IsStatusOf job;
  read_failed = SourceFailed name;
  write_failed = λ old new. Rose old.output_faults new.output_faults;
  keeps = λ old new. new ≡ old;
}
