use Rattle.std.proofs.Common.{◌≡◌, [], map}
use Rattle.arrow_spec.specs.Arrays.{buf, from_on}
use Rattle.arrow_spec.specs.Faults.{ranges_faults}
use Rattle.view_types.specs.Sound.{AreRanges}
use Rattle.view_types.specs.Views.{part_in}
use Rattle.ipc_view.specs.Built.{batch_of}
use Rattle.ipc_view.proofs.batch.BatchTables.data.Given as goal

abbrev pub invariant-loop-i : goal.invariant-loop-i
invariant-loop-i l = record {
  fine : ranges_faults (batch_of l.self) l.first l.i ≡ [];
  shown : map (part_in l.self.input.now) l.ranges.items ≡ from_on (buf (batch_of l.self)) l.first l.i;
  lie : AreRanges l.self.input.now l.ranges.items;
}
