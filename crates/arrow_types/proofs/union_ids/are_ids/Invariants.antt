use Rattle.std.proofs.Common.{◌≡◌, ◌≤◌, drop, true, length}
use Rattle.arrow_spec.specs.Schema.{are_ids}
use Rattle.arrow_types.proofs.union_ids.are_ids.Given as goal

abbrev pub invariant-loop-at : goal.invariant-loop-at
invariant-loop-at l = record { within : l.at ≤ length l.ids; right : are_ids (drop l.at l.ids) ≡ true }

abbrev pub decreases-loop-at : goal.decreases-loop-at
decreases-loop-at l = l.at
