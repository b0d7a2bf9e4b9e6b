-- What putting a message into a sink does.
use Rattle.std.specs.Prelude.{◌≡◌, ℕ, ◌^◌, ◌≤◌, List, Result, Ok, Err}
use Rattle.std.specs.Io.KnownBytes.{Appends}
use Rattle.arrow_spec.specs.declared.error.IpcError.{IpcError}
use Rattle.arrow_spec.specs.declared.error.IpcError.TheVariants as errors
use Rattle.ipc_bodies.specs.Puts.{Moved, NoneFalls, PutsPart}

-- no byte was put, and no count moved
pub record Untouched (m : Moved) : Type 0 where
  pub bytes : m.new ≡ m.old
  pub faults : m.faults_now ≡ m.faults
  pub wants : m.wants_now ≡ m.wants

-- a message was put, or is too large and nothing was put
abbrev pub PutsMessage : {T : Type 0} → Moved → Result T IpcError → ℕ → List ℕ → Type 0
PutsMessage m (Ok done) padded bs = Appends m.old m.new bs × NoneFalls m
PutsMessage m (Err errors.TooLarge) padded bs = (2 ^ 31 ≤ padded) × Untouched m
PutsMessage m (Err e) padded bs = PutsPart m e bs
