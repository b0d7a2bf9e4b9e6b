use Rattle.std.proofs.Common.{◌≡◌, ◌++◌, map}
use Rattle.arrow_spec.specs.Needed.{numbers_from}
use Rattle.array_filter.specs.Offsets.{ends_on, row_length}
use Rattle.array_filter.proofs.offsets.push_ends.Given as goal

abbrev pub invariant-loop-i : goal.invariant-loop-i
invariant-loop-i g l =
    map g.O.Offset.number l.ends.items ≡ map g.O.Offset.number l.initial.ends.items ++ ends_on l.begin (map (row_length (map g.O.Offset.number l.offsets)) (numbers_from l.run.from l.i))
