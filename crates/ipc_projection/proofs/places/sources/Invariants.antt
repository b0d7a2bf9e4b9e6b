use Rattle.std.proofs.Common.{◌≡◌, ℕ, ◌<◌, length, Some}
use Rattle.std.specs.Prelude.{slice_get}
use Rattle.ipc_projection.specs.Places.{entry}
use Rattle.ipc_projection.proofs.places.sources.Given as goal

abbrev pub invariant-loop-i : goal.invariant-loop-i
invariant-loop-i l = record {
  count : length l.sources.items ≡ l.width;
  each : (i j : ℕ) → i < l.i-counter → entry l.map i ≡ Some j → slice_get l.sources.items j ≡ Some i;
}
