use Rattle.ipc_projection.proofs.Stood.{StandSoFar}
use Rattle.ipc_projection.proofs.fields.fields_at.Given as goal

abbrev pub invariant-loop-i : goal.invariant-loop-i
invariant-loop-i l = StandSoFar l.schema l.places l.i l.fields
