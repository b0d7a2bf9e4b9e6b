use Rattle.ipc_read_laws.specs.Held.{HasKind}
use Rattle.ipc_read.specs.Batches.{schema_fields}
use Rattle.ipc_read.specs.Held.{held_in}
use Rattle.ipc_read.proofs.HeldKinds.{SeenHeld}
use Rattle.ipc_read.proofs.held.are_held_for.Given as goal

abbrev pub invariant-loop-i : goal.invariant-loop-i
invariant-loop-i l = SeenHeld HasKind (held_in l.dictionaries) (schema_fields l.schema l.fields) l.i
