use Rattle.std.proofs.Common.{◌≡◌, take}
use Rattle.ipc_read.proofs.tables.queue_of.Given as goal

abbrev pub invariant-loop-item : goal.invariant-loop-item
invariant-loop-item g l = l.queue.items ≡ take l.item-index l.items
