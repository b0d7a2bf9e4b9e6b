use Rattle.std.proofs.Common.{◌≡◌, ◌+◌, ◌++◌, drop}
use Rattle.arrow_spec.specs.Needed.{numbers_from}
use Rattle.array_filter.specs.Rows.{marked_from}
use Rattle.array_filter.proofs.runs.run_length.Given as goal

abbrev pub invariant-loop-count : goal.invariant-loop-count
invariant-loop-count l = marked_from l.from (drop l.from l.marks) ≡ numbers_from l.from l.count ++ marked_from (l.from + l.count) (drop (l.from + l.count) l.marks)
