use Rattle.std.proofs.Common.{◌≡◌, take}
use Rattle.array_filter.specs.Runs.{rows_in_runs}
use Rattle.array_filter.proofs.RunLaws.{Rising}
use Rattle.array_filter.proofs.runs.runs_of_rows.Given as goal

abbrev pub invariant-loop-row : goal.invariant-loop-row
invariant-loop-row l = record {
  rows : rows_in_runs l.runs.items ≡ take l.row-index l.rows;
  rising : Rising l.runs.items l.rows l.row-index l.held;
}
