use Rattle.std.proofs.Common.{◌≡◌, ◌+◌, ◌-◌, length}
use Rattle.ipc_unify.specs.Steps.{AreKept, lists_of}
use Rattle.ipc_unify.proofs.taken.grow.Given as goal

abbrev pub invariant-loop-alloc : goal.invariant-loop-alloc
invariant-loop-alloc l = record {
  same : lists_of l.lists.items ≡ lists_of l.fn.lists.items;
  kept : AreKept l.lists.items;
}

abbrev pub decreases-loop-alloc : goal.decreases-loop-alloc
decreases-loop-alloc l = l.number + 1 - length l.lists.items
