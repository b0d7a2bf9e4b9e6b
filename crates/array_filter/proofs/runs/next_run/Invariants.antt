use Rattle.std.proofs.Common.{◌≡◌, drop}
use Rattle.array_filter.specs.Rows.{marked_from}
use Rattle.array_filter.proofs.runs.next_run.Given as goal

abbrev pub invariant-loop-from : goal.invariant-loop-from
invariant-loop-from l = marked_from l.low (drop l.low l.marks) ≡ marked_from l.from (drop l.from l.marks)
