-- The body of a message as it is pulled from a feed.
use Rattle.std.specs.Prelude.{◌≡◌, ℕ, List, length, take, drop, nat_le, true, ⊤, Option, Some, None, Result, Ok, Err}
use Rattle.arrow_spec.specs.declared.error.IpcError.{IpcError}
use Rattle.arrow_spec.specs.declared.error.OutOfSpecKind.TheVariants.{Truncated}
use Rattle.arrow_spec.specs.Readings.{Refuses, only_if, refusals}
use Rattle.ipc_streams.specs.declared.body.HeldBody.{HeldBody}

-- a call gives so many bytes from the front, and leaves the others, or there are fewer
abbrev pub GivesBody : Option (List ℕ) → Option (List ℕ) → ℕ → Result HeldBody IpcError → Type 0
GivesBody None rest' n result = ⊤
GivesBody (Some b) rest' n (Ok body) = (nat_le n (length b) ≡ true) × (body.bytes.items ≡ take n b) × (rest' ≡ Some (drop n b))
GivesBody (Some b) rest' n (Err e) = Refuses e (refusals (only_if (nat_le n (length b)) Truncated))
