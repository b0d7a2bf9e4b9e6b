use Rattle.std.proofs.Common.{◌≡◌, ℕ, ◌*◌, ◌^◌, ◌≤◌, ◌<◌}
use Rattle.ipc_write.specs.Compaction.{value_length, value_lengths}
use Rattle.ipc_write.proofs.compaction.value_lengths.Given as goal

abbrev pub invariant-loop-row : goal.invariant-loop-row
invariant-loop-row g l = record {
  sum : l.lengths ≡ value_lengths l.array l.row;
  near : l.lengths ≤ l.row * 2 ^ 32;
  small : (k : ℕ) → k < l.row → value_length l.array k < 2 ^ 32;
}
