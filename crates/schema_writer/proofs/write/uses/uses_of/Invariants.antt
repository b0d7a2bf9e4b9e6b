use Rattle.std.proofs.Common.{◌≡◌, ◌++◌, map, drop}
use Rattle.arrow_spec.specs.Kinds.{uses_in}
use Rattle.arrow_types.specs.Schemas.{fields_in}
use Rattle.ipc_fields.specs.IpcFields.{ids_of, fields_with}
use Rattle.ipc_fields.specs.Uses.{use_in}
use Rattle.schema_writer.proofs.write.uses.uses_of.Given as goal

abbrev pub invariant-loop-i : goal.invariant-loop-i
invariant-loop-i l = map use_in l.uses.items ++ uses_in (fields_with (fields_in (drop l.i l.schema)) (ids_of (drop l.i l.ipc_fields))) ≡ uses_in (fields_with (fields_in l.schema) (ids_of l.ipc_fields))
