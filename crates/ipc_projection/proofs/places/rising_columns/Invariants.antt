use Rattle.ipc_projection.specs.Places.{AreRising}
use Rattle.ipc_projection.proofs.places.rising_columns.Given as goal

abbrev pub invariant-loop-i : goal.invariant-loop-i
invariant-loop-i l = AreRising l.places l.i l.columns.items l.map
