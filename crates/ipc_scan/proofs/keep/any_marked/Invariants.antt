use Rattle.std.proofs.Common.{◌≡◌, take, false}
use Rattle.laws_scan.specs.Filtered.{any_marked}
use Rattle.ipc_scan.proofs.keep.any_marked.Given as goal

abbrev pub invariant-loop-i : goal.invariant-loop-i
invariant-loop-i l = any_marked (take l.i l.marks) ≡ false
