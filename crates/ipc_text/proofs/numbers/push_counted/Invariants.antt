use Rattle.std.proofs.Common.{◌≡◌, ◌++◌, ◌-◌}
use Rattle.arrow_spec.specs.Schema.{counted_ids}
use Rattle.arrow_spec.specs.SchemaText.{ids_text}
use Rattle.ipc_text.specs.Ids.{ids_from}
use Rattle.ipc_text.proofs.numbers.push_counted.Given as goal

abbrev pub invariant-loop-id : goal.invariant-loop-id
invariant-loop-id l = l.out.items ++ ids_from l.id (counted_ids l.id (l.count - l.id)) ≡ l.fn.out.items ++ ids_text (counted_ids 0 l.count)
