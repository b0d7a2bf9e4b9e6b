use Rattle.std.proofs.Common.{◌≡◌, ◌++◌, ◌-◌, ◌≤◌, drop, length}
use Rattle.array_filter.specs.Rows.{marked_from}
use Rattle.array_filter.specs.Runs.{Climb, rows_in_runs}
use Rattle.array_filter.proofs.runs.runs_of_marks.Given as goal

abbrev pub invariant-loop-next : goal.invariant-loop-next
invariant-loop-next l = record {
  rows : marked_from 0 l.marks ≡ rows_in_runs l.runs.items ++ marked_from l.low (drop l.low l.marks);
  climb : Climb 0 l.runs.items l.low;
  within : l.low ≤ length l.marks;
}

abbrev pub decreases-loop-next : goal.decreases-loop-next
decreases-loop-next l = length l.marks - l.low
