use Rattle.std.proofs.Common.{◌≡◌, length, take}
use Rattle.array_filter.specs.Runs.{rows_in_runs}
use Rattle.array_filter.proofs.RunLaws.{Counted}
use Rattle.array_filter.proofs.runs.row_count.Given as goal

abbrev pub invariant-loop-run : goal.invariant-loop-run
invariant-loop-run l = record {
  rows : l.count ≡ length (rows_in_runs (take l.run-index l.runs));
  counted : Counted l.runs l.run-index l.held l.count;
}
