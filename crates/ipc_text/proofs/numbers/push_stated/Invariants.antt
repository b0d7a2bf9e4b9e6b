use Rattle.std.proofs.Common.{◌≡◌, ◌++◌, drop}
use Rattle.arrow_spec.specs.SchemaText.{ids_text}
use Rattle.ipc_text.specs.Ids.{ids_from}
use Rattle.ipc_text.proofs.numbers.push_stated.Given as goal

abbrev pub invariant-loop-i : goal.invariant-loop-i
invariant-loop-i l = l.out.items ++ ids_from l.i (drop l.i l.ids) ≡ l.fn.out.items ++ ids_text l.ids
