use Rattle.std.proofs.Common.{◌≡◌}
use Rattle.arrow_spec.specs.Schema.{counted_ids}
use Rattle.ipc_view.proofs.unions.counted_ids.Given as goal

abbrev pub invariant-loop-i : goal.invariant-loop-i
invariant-loop-i l = l.ids.items ≡ counted_ids 0 l.i
