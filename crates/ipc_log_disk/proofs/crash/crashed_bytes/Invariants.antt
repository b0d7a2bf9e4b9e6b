use Rattle.std.proofs.Common.{◌≡◌, take, reverse}
use Rattle.ipc_log_disk.specs.Histories.{content_after, crashed_after}
use Rattle.ipc_log_disk.proofs.crash.crashed_bytes.Given as goal

abbrev pub invariant-loop-change : goal.invariant-loop-change
invariant-loop-change l = record {
  held : l.held.items ≡ content_after l.first (reverse (take l.change-index l.changes));
  left : l.left.items ≡ crashed_after l.fill l.size l.first (reverse (take l.change-index l.changes));
}
