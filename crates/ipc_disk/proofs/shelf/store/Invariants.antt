use Rattle.std.proofs.Common.{◌≡◌, ◌≤◌, ◌-◌, ◌++◌, length, take, drop}
use Rattle.ipc_disk.specs.Shelves.{with_bytes}
use Rattle.ipc_disk.proofs.shelf.store.Given as goal

abbrev pub invariant-loop-at : goal.invariant-loop-at
invariant-loop-at l = (l.entries ≡ l.initial.entries) × (l.at ≤ length l.initial.entries) × (with_bytes l.initial.entries l.name l.bytes ≡ take l.at l.initial.entries ++ with_bytes (drop l.at l.initial.entries) l.name l.bytes)

abbrev pub decreases-loop-at : goal.decreases-loop-at
decreases-loop-at l = length l.initial.entries - l.at
