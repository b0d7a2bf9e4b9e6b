use Rattle.std.proofs.Common.{◌≡◌, ◌-◌}
use Rattle.arrow_spec.specs.Readings.{each}
use Rattle.ipc_schema.specs.Views.{number_of, numbers_in}
use Rattle.ipc_schema.proofs.Items.{with_front}
use Rattle.ipc_schema.proofs.header.read_numbers.Given as goal

abbrev pub invariant-loop-i : goal.invariant-loop-i
invariant-loop-i l = with_front l.numbers.items (each (number_of l.vector) l.i (l.vector.vector.count - l.i)) ≡ numbers_in l.vector
