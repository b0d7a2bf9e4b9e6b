use Rattle.std.proofs.Common.{◌≡◌, length}
use Rattle.ipc_disk.specs.Shelves.{entry_of}
use Rattle.ipc_disk.proofs.shelf.find.Given as goal

abbrev pub invariant-loop-rest : goal.invariant-loop-rest
invariant-loop-rest l = entry_of l.rest l.name ≡ entry_of l.entries l.name

abbrev pub decreases-loop-rest : goal.decreases-loop-rest
decreases-loop-rest l = length l.rest
