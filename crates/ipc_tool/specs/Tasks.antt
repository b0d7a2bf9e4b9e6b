-- What a command is held to.
use Rattle.std.specs.Prelude.{◌≡◌, ◌⊎◌, ◌≤◌, ℕ, List, [], Bool, ⊤, Option, Result, Any, OnOk, IfErr, IsErrAnd, IsSomeAnd, IsTrue, IsFalse, None}
use Rattle.std.specs.Io.KnownBytes.{IsAtEnd, Keeps}
use Rattle.arrow_spec.specs.declared.error.IpcError.{IpcError}
use Rattle.arrow_spec.specs.declared.error.IpcError.TheVariants as errors
use Rattle.arrow_spec.specs.Words.{Held}
use Rattle.ipc_io.specs.Outside.{Lacks}
use Rattle.ipc_tool.specs.Input.{IsNoHex, TakesTooMany}
use Rattle.ipc_tool.specs.Outside.{NoneFailed, Outside}
use Rattle.ipc_tool.specs.Refusal.{number_of}
use Rattle.ipc_tool.specs.declared.refusal.Refusal.{Refusal}
use Rattle.ipc_tool.specs.declared.refusal.Refusal.TheVariants.{Ipc, Words, NotHex, InputTooLong, NoName}

pub record Task : Type 1 where
  -- whether the input is read, to its end
  pub reads : Bool
  -- the names that are opened
  pub opens : List (List ℕ)
  -- the name whose absence is told before all else
  pub first : Option (List ℕ)
  -- what is done where the command is not refused
  pub done : Outside → Outside → Type 0
  -- which errors of the library may be told, but for those of devices and want of memory
  pub may : IpcError → Outside → Type 0
  -- what a refusal leaves
  pub left : Refusal → Outside → Outside → Type 0
  -- where the command has to be done if no device fails, but for want of memory and the refusals that are possible still
  pub must : Outside → Type 0
  pub still : Refusal → Outside → Type 0
  -- the statuses of its refusals
  pub statuses : ℕ → Type 0
  -- when a read has failed, and when a write has
  pub read_failed : Outside → Outside → Type 0
  pub write_failed : Outside → Outside → Type 0
  -- what of the shelf stays
  pub keeps : Option Held → Option Held → Type 0

-- why a command is refused: a device failed, memory was wanting, the input is no hex text or too long, a name is not there, or by what the command says
abbrev pub CauseOf : Task → Refusal → Outside → Outside → Type 0
CauseOf t (Ipc errors.ReadFault) old new = t.read_failed old new
CauseOf t (Ipc errors.WriteFault) old new = t.write_failed old new
CauseOf t (Ipc errors.Memory) old new = ⊤
CauseOf t (Ipc e) old new = t.may e old
CauseOf t Words old new = ⊥
CauseOf t NotHex old new = IsTrue t.reads × IsNoHex old.rest new.rest
CauseOf t InputTooLong old new = IsTrue t.reads × TakesTooMany old.rest new.rest
CauseOf t NoName old new = Any (Lacks old.held) t.opens

-- what is told of the shelf lacks a name
abbrev pub IsMissing : Option (List ℕ) → Option Held → Type 0
IsMissing name held = IsSomeAnd name (λ n. IsSomeAnd held (λ h. h n ≡ None))

-- why nothing was opened
abbrev pub IsOfOpening : Refusal → Type 0
IsOfOpening e = (e ≡ NoName) ⊎ (e ≡ Ipc errors.ReadFault) ⊎ (e ≡ Ipc errors.Memory)

-- The answer of a command does its task: it is done, or there is one refusal.
pub record Does (t : Task) (answer : Result (Unit {0}) Refusal) (old new : Outside) : Type 0 where
  -- it is done, and the input was read to its end
  pub done : OnOk answer (t.done old new)
  pub at_end : OnOk answer (IsTrue t.reads → IsAtEnd new.rest)
  -- a refusal has its cause and left what it may; what is of the input or of a name, and a failed read of one that reads the input, added nothing
  pub cause : IfErr answer (λ e. CauseOf t e old new)
  pub left : IfErr answer (λ e. t.left e old new)
  pub untouched : IfErr answer (λ e. 14 ≤ number_of e → Keeps old.written new.written)
  pub not_read : IfErr answer (λ e. number_of e ≡ 11 → IsTrue t.reads → Keeps old.written new.written)
  -- where it has to be done and no device failed, memory was wanting, or the refusal is possible still
  pub complete : IfErr answer (λ e. t.must old → NoneFailed old new → (e ≡ Ipc errors.Memory) ⊎ t.still e old)
  pub statuses : IfErr answer (λ e. t.statuses (number_of e))
  -- the first name that is not there is told before all else
  pub missing : IsMissing t.first old.held → IsErrAnd answer IsOfOpening
  -- what it does not use stays
  pub keeps : t.keeps old.held new.held
  pub unread : IsFalse t.reads → new.rest ≡ old.rest
  pub unopened : t.opens ≡ [] → new.shelf_faults ≡ old.shelf_faults
