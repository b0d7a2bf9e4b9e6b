use Rattle.std.proofs.Common.{◌≡◌, length, take}
use Rattle.array_filter.specs.Rows.{taken}
use Rattle.array_filter.specs.Runs.{rows_in_runs}
use Rattle.array_filter.proofs.RunLaws.{Reached}
use Rattle.array_filter.proofs.bits.take_bits.Given as goal

abbrev pub invariant-loop-run : goal.invariant-loop-run
invariant-loop-run l = record {
  bits : l.taken.items ≡ taken (rows_in_runs (take l.run-index l.runs)) l.bits;
  reached : Reached l.runs l.run-index (length l.bits);
}
