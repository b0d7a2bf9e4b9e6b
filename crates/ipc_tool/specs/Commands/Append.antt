-- append TARGET: the batches of the stream that the input's hex text stands for, behind those of the file that stands under a name.
use Rattle.std.specs.Prelude.{◌≡◌, ◌⊎◌, ◌≤◌, ℕ, List, [], ◌∷◌, ◌++◌, length, true, decimal, ⊤, Option, Some, None, IfSome, IsSomeAnd}
use Rattle.std.specs.Io.KnownBytes.{Appends, Keeps}
use Rattle.arrow_spec.specs.declared.error.IpcError.{IpcError}
use Rattle.arrow_spec.specs.declared.error.IpcError.TheVariants as errors
use Rattle.arrow_spec.specs.Words.{Held, bytes_of_hex}
use Rattle.ipc_round_trip.specs.Below.{IsAppended, IsNotAppended, RefusalSays}
use Rattle.ipc_round_trip.specs.Below.{WriteOptions}
use Rattle.ipc_round_trip.specs.Below.{HasOtherFields}
use Rattle.ipc_round_trip.specs.Below.{IsWhole, RefusesStream}
use Rattle.ipc_round_trip.specs.Below.{WholeStream}
use Rattle.ipc_disk.specs.Places.{IsReplaced}
use Rattle.ipc_round_trip.specs.Below.{FileCause}
use Rattle.ipc_io.specs.declared.outside.ShelfError.{ShelfError}
use Rattle.ipc_io.specs.declared.outside.ShelfError.TheVariants as shelf
use Rattle.ipc_io.specs.Outside.{AppendsPrefix, IsHeld, Lacks, Rose}
use Rattle.ipc_tool.specs.Input.{HexCause}
use Rattle.ipc_tool.specs.Outside.{Outside}
use Rattle.ipc_tool.specs.Refusal.{shelf_refusal}
use Rattle.ipc_tool.specs.Tasks.{Task}
use Rattle.ipc_tool.specs.declared.refusal.Refusal.{Refusal}
use Rattle.ipc_tool.specs.declared.refusal.Refusal.TheVariants.{Ipc}

-- how batches are appended: dictionaries that go on with those of the file are written as deltas
abbrev pub append_options : WriteOptions
append_options = record { compression = None; metadata_limit = 2147483647; deltas = true }

-- a number of batches in decimal digits, and a line feed
abbrev pub count_text : ℕ → List ℕ
count_text n = decimal n ++ 10 ∷ []

-- ── the stream of the input ──

-- the bytes that a text stands for are a stream with this schema and these batches
abbrev pub IsReadStream : Option (List ℕ) → WholeStream → Type 0
IsReadStream rest s = IfSome rest (λ text. IsSomeAnd (bytes_of_hex text) (λ b. IsWhole b s))

-- they are refused as a stream
pub record StreamRefused (e : IpcError) (rest : Option (List ℕ)) : Type 0 where
  pub cause : FileCause e 0 0
  pub refused : IfSome rest (λ text. IsSomeAnd (bytes_of_hex text) (RefusesStream e))

-- why the input gives no stream: it is no hex text, or what it stands for is refused
abbrev pub InputCause : Refusal → Option (List ℕ) → Option (List ℕ) → ℕ → ℕ → Type 0
InputCause e rest rest' faults faults' = HexCause e rest rest' faults faults' ⊎ ((x : IpcError) × (e ≡ Ipc x) × StreamRefused x rest)

-- ── what stands under the name ──

-- the stream was appended to it
pub record PlaceAppended (target : List ℕ) (old new : Option Held) (s : WholeStream) : Type 0 where
  pub content : Option (List ℕ)
  pub behind : Option (List ℕ)
  pub was : IsHeld old target content
  pub appended : IsAppended content behind append_options s
  pub is : IsReplaced old new target behind

-- it was not opened
pub record NotOpened (target : List ℕ) (e : Refusal) (old new : Option Held) (faults faults' : ℕ) : Type 0 where
  pub error : ShelfError
  pub is : e ≡ shelf_refusal error
  pub unknown : error ≡ shelf.Unknown → Lacks old target
  pub failed : error ≡ shelf.Failed → Rose faults faults'
  pub kept : new ≡ old

-- The stream was not appended to it, and it was closed as that left it. Its failures are told by the shelf's count.
pub record PlaceNotAppended (target : List ℕ) (e : IpcError) (old new : Option Held) (s : WholeStream) (faults faults' : ℕ) : Type 0 where
  pub content : Option (List ℕ)
  pub behind : Option (List ℕ)
  pub was : IsHeld old target content
  pub failures : ℕ
  pub refused : IsNotAppended content behind e append_options s 0 failures
  pub says : RefusalSays e content append_options s faults faults'
  pub is : IsReplaced old new target behind

-- why nothing is appended under the name
abbrev pub PlaceRefused : List ℕ → Refusal → Option Held → Option Held → WholeStream → ℕ → ℕ → Type 0
PlaceRefused target e old new s faults faults' = NotOpened target e old new faults faults'
    ⊎ ((x : IpcError) × (e ≡ Ipc x) × PlaceNotAppended target x old new s faults faults')

-- each name but one keeps its bytes, where they are told
abbrev pub KeepsOthers : List ℕ → Option Held → Option Held → Type 0
KeepsOthers target None new = new ≡ None
KeepsOthers target (Some held) None = ⊥
KeepsOthers target (Some held) (Some held') = (other : List ℕ) → (other ≡ target → ⊥) → held' other ≡ held other

-- ── the number of batches ──

-- it was not put, or a part of its text was as the output failed
abbrev pub CountRefused : Refusal → ℕ → Option (List ℕ) → Option (List ℕ) → ℕ → ℕ → Type 0
CountRefused e n old new faults faults' =
    ((e ≡ Ipc errors.Memory) × Keeps old new)
    ⊎ ((e ≡ Ipc errors.WriteFault) × Rose faults faults' × AppendsPrefix old new (count_text n))

-- ── the whole ──

-- What stood under the name has the input's batches behind its own, and their number was added to the output.
pub record IsAppendedTo (target : List ℕ) (old new : Outside) : Type 0 where
  pub stream : WholeStream
  pub read : IsReadStream old.rest stream
  pub place : PlaceAppended target old.held new.held stream
  pub text : Appends old.written new.written (count_text (length stream.batches.items))

-- the input gives no stream
pub record StopsAtInput (e : Refusal) (old new : Outside) : Type 0 where
  pub cause : InputCause e old.rest new.rest old.input_faults new.input_faults
  pub held : new.held ≡ old.held
  pub written : Keeps old.written new.written

-- nothing is appended under the name
pub record StopsAtPlace (e : Refusal) (target : List ℕ) (old new : Outside) : Type 0 where
  pub stream : WholeStream
  pub read : IsReadStream old.rest stream
  pub place : PlaceRefused target e old.held new.held stream old.shelf_faults new.shelf_faults
  pub written : Keeps old.written new.written

-- the number of the batches that were appended was not put
pub record StopsAtCount (e : Refusal) (target : List ℕ) (old new : Outside) : Type 0 where
  pub stream : WholeStream
  pub read : IsReadStream old.rest stream
  pub place : PlaceAppended target old.held new.held stream
  pub count : CountRefused e (length stream.batches.items) old.written new.written old.output_faults new.output_faults

-- the first step that is refused: why, and what that left
abbrev pub AppendStops : Refusal → List ℕ → Outside → Outside → Type 0
AppendStops e target old new = StopsAtInput e old new ⊎ (StopsAtPlace e target old new ⊎ StopsAtCount e target old new)

-- the fields of what stands under the name are others than those of the input's stream
pub record HasOthers (target : List ℕ) (old : Outside) : Type 0 where
  pub stream : WholeStream
  pub read : IsReadStream old.rest stream
  pub content : Option (List ℕ)
  pub was : IsHeld old.held target content
  pub others : HasOtherFields content stream.metadata

-- A mismatch of schemas is of fields that differ. A column that is not there, dictionaries that cannot be said and a state of a writer are never told. Of other errors the step says why.
abbrev pub AppendMay : IpcError → List ℕ → Outside → Type 0
AppendMay errors.SchemaMismatch target old = HasOthers target old
AppendMay (errors.Projection index) target old = ⊥
AppendMay errors.NotRepresentable target old = ⊥
AppendMay errors.State target old = ⊥
AppendMay e target old = ⊤

-- what an append that was refused added to the output: nothing; after a failed put a part of a number's text
abbrev pub AddsCount : Refusal → Outside → Outside → Type 0
AddsCount (Ipc errors.WriteFault) old new = (n : ℕ) × AppendsPrefix old.written new.written (count_text n)
AddsCount _ old new = Keeps old.written new.written

-- No append has to be done.
abbrev pub append_task : List ℕ → Task
append_task target = record {
  reads = true;
  opens = target ∷ [];
  first = None;
  done = IsAppendedTo target;
  may = λ e old. AppendMay e target old;
  left = λ e old new. AddsCount e old new × AppendStops e target old new;
  must = λ old. ⊥;
  still = λ e old. ⊥;
  statuses = λ status. (status ≤ 4) ⊎ ((6 ≤ status) × (status ≤ 8)) ⊎ (11 ≤ status);
  read_failed = λ old new. Rose old.input_faults new.input_faults ⊎ Rose old.shelf_faults new.shelf_faults;
  write_failed = λ old new. Rose old.shelf_faults new.shelf_faults ⊎ Rose old.output_faults new.output_faults;
  keeps = KeepsOthers target;
}
