use Rattle.std.proofs.Common.{◌≡◌, ◌++◌, drop, map}
use Rattle.arrow_spec.specs.SchemaText.{field_lines}
use Rattle.arrow_types.specs.Child.{fields_from}
use Rattle.arrow_types.specs.KindOf.{child_of}
use Rattle.ipc_fields.specs.IpcFields.{ids_of, fields_with}
use Rattle.ipc_text.proofs.lines.+lines.Given as goal

abbrev pub invariant-push_fields-loop-i : goal.invariant-push_fields-loop-i
invariant-push_fields-loop-i l = l.out.items ++ field_lines l.level (fields_with (fields_from (map child_of (drop l.i l.children))) (ids_of (drop l.i l.ipc_fields))) ≡ l.fn.out.items ++ field_lines l.level (fields_with (fields_from (map child_of l.children)) (ids_of l.ipc_fields))
