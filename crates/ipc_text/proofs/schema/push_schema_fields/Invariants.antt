use Rattle.std.proofs.Common.{◌≡◌, ◌++◌, drop}
use Rattle.arrow_spec.specs.SchemaText.{field_lines}
use Rattle.arrow_types.specs.Schemas.{fields_in}
use Rattle.ipc_fields.specs.IpcFields.{ids_of, fields_with}
use Rattle.ipc_text.proofs.schema.push_schema_fields.Given as goal

abbrev pub invariant-loop-i : goal.invariant-loop-i
invariant-loop-i l = l.out.items ++ field_lines 0 (fields_with (fields_in (drop l.i l.schema)) (ids_of (drop l.i l.ipc_fields))) ≡ l.fn.out.items ++ field_lines 0 (fields_with (fields_in l.schema) (ids_of l.ipc_fields))
