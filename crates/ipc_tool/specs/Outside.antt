-- What clauses see of what a run is lent.
use Rattle.std.specs.Prelude.{ℕ, List, Option}
use Rattle.arrow_spec.specs.Words.{Held}
use Rattle.ipc_io.specs.Outside.{Stands}

-- what is seen of the shelf, the input and the output
pub record Outside : Type 0 where
  pub held : Option Held
  pub shelf_faults : ℕ
  pub rest : Option (List ℕ)
  pub input_faults : ℕ
  pub written : Option (List ℕ)
  pub output_faults : ℕ
  pub output_wants : ℕ

-- by the members of their bounds
abbrev pub outside_of : {H I W : Type 0} → (H → Option Held) → (H → ℕ) → (I → Option (List ℕ)) → (I → ℕ) → (W → Option (List ℕ)) → (W → ℕ) → (W → ℕ)
    → H → I → W → Outside
outside_of held shelf_faults rest input_faults written output_faults output_wants shelf input output = record {
  held = held shelf;
  shelf_faults = shelf_faults shelf;
  rest = rest input;
  input_faults = input_faults input;
  written = written output;
  output_faults = output_faults output;
  output_wants = output_wants output;
}

-- no device failed
pub record NoneFailed (old new : Outside) : Type 0 where
  pub shelf : Stands old.shelf_faults new.shelf_faults
  pub input : Stands old.input_faults new.input_faults
  pub output : Stands old.output_faults new.output_faults
