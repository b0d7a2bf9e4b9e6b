use Rattle.std.proofs.Common.{◌≤◌, drop}
use Rattle.arrow_spec.specs.Layout.{slot_count}
use Rattle.arrow_flat.specs.Nodes.{slots_of}
use Rattle.arrow_flat.proofs.Counts.{Counted}
use Rattle.arrow_flat.proofs.measure.slot_count.Given as goal

abbrev pub invariant-loop-i : goal.invariant-loop-i
invariant-loop-i l = record {
  counted : Counted l.count l.i (slot_count (slots_of l.slots)) (slots_of (drop l.i l.slots));
  within : l.count ≤ l.i;
}
