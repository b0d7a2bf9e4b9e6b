use Rattle.std.proofs.Common.{◌≡◌, drop}
use Rattle.arrow_types.specs.KindOf.{fields_of}
use Rattle.ipc_fields.specs.IpcFields.{ids_of, have_shapes}
use Rattle.ipc_fields.proofs.shapes.+shape.Given as goal

abbrev pub invariant-have_shapes-loop-i : goal.invariant-have_shapes-loop-i
invariant-have_shapes-loop-i l = have_shapes (fields_of (drop l.i l.fields)) (ids_of (drop l.i l.below)) ≡ have_shapes (fields_of l.fields) (ids_of l.below)
