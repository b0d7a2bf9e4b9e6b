-- What is answered to the words of a process, over a shelf, an input and two outputs.
use Rattle.std.specs.Prelude.{◌≡◌, ◌⊎◌, ℕ, ◌≤◌, List, Option, IsTrue, IsFalse}
use Rattle.std.specs.Io.KnownBytes.{Appends, Keeps}
use Rattle.arrow_spec.specs.declared.error.IpcError.TheVariants as errors
use Rattle.ipc_io.specs.Outside.{AppendsPrefix, Rose}
use Rattle.ipc_words.specs.Help.{asks_for_help}
use Rattle.ipc_tool.specs.Notes.{IsNotedAs, Noted}
use Rattle.ipc_tool.specs.Outside.{Outside}
use Rattle.ipc_tool.specs.Runs.{Ran}
use Rattle.ipc_tool.specs.declared.refusal.Refusal.TheVariants.{Ipc}

-- a status of a run
pub record IsStatus (status : ℕ) : Type 0 where
  pub at_most : status ≤ 17

-- nothing was opened, and nothing read
pub record IsUnread (old new : Outside) : Type 0 where
  pub rest : new.rest ≡ old.rest
  pub reads : new.input_faults ≡ old.input_faults
  pub held : new.held ≡ old.held
  pub openings : new.shelf_faults ≡ old.shelf_faults

-- there was no memory for the words: nothing was read and nothing added
pub record WantedMemory (status : ℕ) (old new : Outside) (noted noted' : Noted) : Type 0 where
  pub unread : IsUnread old new
  pub untouched : Keeps old.written new.written
  pub line : IsNotedAs status (Ipc errors.Memory) noted noted'

-- a text was put, and nothing noted; or a part of it, as the output failed; or nothing, as memory was wanting
abbrev pub IsShown : ℕ → List ℕ → Option (List ℕ) → Option (List ℕ) → ℕ → ℕ → Noted → Noted → Type 0
IsShown status text old new writes writes' noted noted' =
    ((status ≡ 0) × Appends old new text × Keeps noted.written noted'.written)
    ⊎ (IsNotedAs status (Ipc errors.WriteFault) noted noted' × AppendsPrefix old new text × Rose writes writes')
    ⊎ (IsNotedAs status (Ipc errors.Memory) noted noted' × Keeps old new)

-- the answer to words that ask for help or for the version: a text is put, and nothing is read
pub record Helped (status : ℕ) (old new : Outside) (noted noted' : Noted) : Type 0 where
  pub text : List ℕ
  pub unread : IsUnread old new
  pub shown : IsShown status text old.written new.written old.output_faults new.output_faults noted noted'

-- one of these, or there was no memory for the words
abbrev pub IsAnswer : ℕ → List (List ℕ) → Outside → Outside → Noted → Noted → Type 0
IsAnswer status words old new noted noted' =
    (IsFalse (asks_for_help words) × Ran status words old new noted noted')
    ⊎ (IsTrue (asks_for_help words) × Helped status old new noted noted')
    ⊎ WantedMemory status old new noted noted'
