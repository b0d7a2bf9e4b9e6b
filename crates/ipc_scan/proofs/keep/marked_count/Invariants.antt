use Rattle.std.proofs.Common.{◌≡◌, take}
use Rattle.laws_scan.specs.Filtered.{marked_count}
use Rattle.ipc_scan.proofs.keep.marked_count.Given as goal

abbrev pub invariant-loop-i : goal.invariant-loop-i
invariant-loop-i l = l.count ≡ marked_count (take l.i l.marks)
