use Rattle.std.proofs.Common.{◌≡◌}
use Rattle.ipc_fields.specs.UnionIds.{numbers_in}
use Rattle.ipc_fields.proofs.UnionSteps.{numbers_left}
use Rattle.schema_reader.proofs.union.read_numbers.Given as goal

abbrev pub invariant-loop-i : goal.invariant-loop-i
invariant-loop-i l = numbers_left l.numbers l.read.items l.i ≡ numbers_in l.numbers
