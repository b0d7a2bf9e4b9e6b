use Rattle.ipc_words.proofs.NumberSteps.{Stands}
use Rattle.ipc_words.proofs.numbers.read_numbers.Given as goal

abbrev pub invariant-loop-i : goal.invariant-loop-i
invariant-loop-i l = Stands l.text l.numbers.items l.start l.i
