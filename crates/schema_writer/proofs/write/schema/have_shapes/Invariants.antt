use Rattle.std.proofs.Common.{◌≡◌, drop}
use Rattle.arrow_types.specs.Schemas.{fields_in}
use Rattle.ipc_fields.specs.IpcFields.{ids_of, have_shapes}
use Rattle.schema_writer.proofs.write.schema.have_shapes.Given as goal

abbrev pub invariant-loop-i : goal.invariant-loop-i
invariant-loop-i l = have_shapes (fields_in (drop l.i l.schema)) (ids_of (drop l.i l.ipc_fields)) ≡ have_shapes (fields_in l.schema) (ids_of l.ipc_fields)
