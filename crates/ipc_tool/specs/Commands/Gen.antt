-- gen N: one line on the table that is generated from a number, as a file that becomes a stream and is read back.
use Rattle.std.specs.Prelude.{◌≡◌, ◌⊎◌, ⊤, ℕ, List, [], Option, None, false}
use Rattle.std.specs.Io.KnownBytes.{Appends, Keeps}
use Rattle.arrow_spec.specs.declared.error.Counted.TheVariants.{Dictionaries}
use Rattle.arrow_spec.specs.declared.error.IpcError.TheVariants.{Memory, TooLarge, TooMany, WriteFault}
use Rattle.ipc_io.specs.Outside.{AppendsPrefix, Rose}
use Rattle.ipc_round_trip.specs.Line.{IsLineOf, RefusesLine}
use Rattle.ipc_tool.specs.Tasks.{Task}
use Rattle.ipc_tool.specs.declared.refusal.Refusal.{Refusal}
use Rattle.ipc_tool.specs.declared.refusal.Refusal.TheVariants.{Ipc}

-- a line was added
pub record AddsLine (seed : ℕ) (old new : Option (List ℕ)) : Type 0 where
  pub text : List ℕ
  pub says : IsLineOf seed text
  pub added : Appends old new text

-- a part of one, from its front
pub record AddsLineFront (seed : ℕ) (old new : Option (List ℕ)) : Type 0 where
  pub text : List ℕ
  pub says : IsLineOf seed text
  pub added : AppendsPrefix old new text

-- a line was not put, or a part of it was as the output failed
abbrev pub LineRefused : Refusal → List ℕ → Option (List ℕ) → Option (List ℕ) → ℕ → ℕ → Type 0
LineRefused e text old new faults faults' =
    ((e ≡ Ipc Memory) × Keeps old new)
    ⊎ ((e ≡ Ipc WriteFault) × Rose faults faults' × AppendsPrefix old new text)

-- what a refusal leaves: nothing, or after a failed put a part of the line
abbrev pub LeavesLine : ℕ → Refusal → Option (List ℕ) → Option (List ℕ) → Type 0
LeavesLine seed (Ipc WriteFault) old new = AddsLineFront seed old new
LeavesLine seed e old new = Keeps old new

abbrev pub generated_task : ℕ → Task
generated_task seed = record {
  reads = false;
  opens = [];
  first = None;
  done = λ old new. AddsLine seed old.written new.written;
  may = λ e old. RefusesLine seed e;
  left = λ e old new. LeavesLine seed e old.written new.written;
  must = λ old. ⊤;
  still = λ e old. (e ≡ Ipc TooLarge) ⊎ (e ≡ Ipc (TooMany Dictionaries));
  statuses = λ status. (status ≡ 4) ⊎ ((status ≡ 6) ⊎ ((status ≡ 12) ⊎ (status ≡ 13)));
  read_failed = λ old new. ⊥;
  write_failed = λ old new. Rose old.output_faults new.output_faults;
  keeps = λ old new. new ≡ old;
}
