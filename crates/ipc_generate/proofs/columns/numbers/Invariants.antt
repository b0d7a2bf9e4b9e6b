use Rattle.std.proofs.Common.{◌≡◌, take}
use Rattle.ipc_generate.specs.Arrays.{by_rows, number_of}
use Rattle.ipc_generate.proofs.columns.numbers.Given as goal

abbrev pub invariant-loop-i : goal.invariant-loop-i
invariant-loop-i l = l.rows.items ≡ by_rows number_of 0 (take l.i l.states)
