use Rattle.std.proofs.Common.{◌≡◌, ◌++◌, map, drop}
use Rattle.arrow_spec.specs.Kinds.{uses_in}
use Rattle.arrow_types.specs.Child.{fields_from}
use Rattle.arrow_types.specs.KindOf.{child_of}
use Rattle.ipc_fields.specs.IpcFields.{ids_of, fields_with}
use Rattle.ipc_fields.specs.Uses.{use_in}
use Rattle.ipc_fields.proofs.uses.+uses.Given as goal

abbrev pub invariant-push_children-loop-i : goal.invariant-push_children-loop-i
invariant-push_children-loop-i l = map use_in l.uses.items ++ uses_in (fields_with (fields_from (map child_of (drop l.i l.children))) (ids_of (drop l.i l.fields))) ≡ map use_in l.fn.uses.items ++ uses_in (fields_with (fields_from (map child_of l.children)) (ids_of l.fields))
