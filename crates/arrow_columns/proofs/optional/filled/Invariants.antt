use Rattle.std.proofs.Common.{◌≡◌, map, take}
use Rattle.arrow_columns.specs.Optional.{zero_of, held_or}
use Rattle.arrow_columns.proofs.optional.filled.Given as goal

abbrev pub invariant-loop-row : goal.invariant-loop-row
invariant-loop-row g l = l.numbers.items ≡ map (held_or (zero_of g.T.NativeType.read g.T.NativeType.WIDTH)) (take l.row-index l.rows)
