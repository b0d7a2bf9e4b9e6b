use Rattle.ipc_projection.proofs.Stood.{StandSoFar, AreLeft}
use Rattle.ipc_projection.proofs.items.items_at.Given as goal

abbrev pub invariant-loop-i : goal.invariant-loop-i
invariant-loop-i g l = record {
  moved : StandSoFar l.fn.items.items l.places l.i l.moved.items;
  left : AreLeft l.fn.items.items l.places l.i l.slots.items;
}
