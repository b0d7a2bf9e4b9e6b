-- Hex text that is read from an input, and when reading it is refused.
use Rattle.std.specs.Prelude.{◌≡◌, ℕ, ◌^◌, ◌<◌, ◌≤◌, List, length, ⊤, Option, None, IfSome}
use Rattle.std.specs.Io.KnownBytes.{Consumes, IsAtEnd}
use Rattle.arrow_spec.specs.declared.error.IpcError.TheVariants as errors
use Rattle.arrow_spec.specs.Words.{bytes_of_hex}
use Rattle.ipc_io.specs.Outside.{Rose}
use Rattle.ipc_tool.specs.declared.refusal.Refusal.{Refusal}
use Rattle.ipc_tool.specs.declared.refusal.Refusal.TheVariants.{Ipc, NotHex, InputTooLong}

-- more than 2 ^ 27 bytes were taken
abbrev pub TakesTooMany : Option (List ℕ) → Option (List ℕ) → Type 0
TakesTooMany old new = (taken : List ℕ) × Consumes old new taken × (2 ^ 27 < length taken)

-- why reading all of a feed is refused
abbrev pub ReadCause : Refusal → Option (List ℕ) → Option (List ℕ) → ℕ → ℕ → Type 0
ReadCause (Ipc errors.ReadFault) old new faults faults' = Rose faults faults'
ReadCause (Ipc errors.Memory) old new faults faults' = ⊤
ReadCause InputTooLong old new faults faults' = TakesTooMany old new
ReadCause _ old new faults faults' = ⊥

-- all of the input was read, and is at most 2 ^ 27 bytes that are no hex text
pub record IsNoHex (old new : Option (List ℕ)) : Type 0 where
  pub at_end : IsAtEnd new
  pub no_hex : IfSome old (λ text. (length text ≤ 2 ^ 27) × (bytes_of_hex text ≡ None))

-- why reading hex text is refused
abbrev pub HexCause : Refusal → Option (List ℕ) → Option (List ℕ) → ℕ → ℕ → Type 0
HexCause NotHex old new faults faults' = IsNoHex old new
HexCause e old new faults faults' = ReadCause e old new faults faults'
