use Rattle.std.proofs.Common.{◌≡◌, drop}
use Rattle.arrow_types.specs.Schemas.{fields_in}
use Rattle.ipc_fields.specs.IpcFields.{ids_of, fields_with}
use Rattle.schema_writer.specs.Tables.{all_fit}
use Rattle.schema_writer.proofs.write.schema.is_sayable.Given as goal

abbrev pub invariant-loop-i : goal.invariant-loop-i
invariant-loop-i l = all_fit (fields_with (fields_in (drop l.i l.schema)) (ids_of (drop l.i l.ipc_fields))) ≡ all_fit (fields_with (fields_in l.schema) (ids_of l.ipc_fields))
