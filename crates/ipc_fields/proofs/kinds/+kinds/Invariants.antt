use Rattle.std.proofs.Common.{◌≡◌, map, drop}
use Rattle.arrow_spec.specs.Kinds.{have_same_kinds}
use Rattle.arrow_types.specs.Child.{fields_from}
use Rattle.arrow_types.specs.KindOf.{child_of}
use Rattle.ipc_fields.specs.IpcFields.{ids_of, fields_with}
use Rattle.ipc_fields.proofs.kinds.+kinds.Given as goal

abbrev pub invariant-have_same_kinds-loop-i : goal.invariant-have_same_kinds-loop-i
invariant-have_same_kinds-loop-i l = have_same_kinds (fields_with (fields_from (map child_of (drop l.i l.a))) (ids_of (drop l.i l.a_fields))) (fields_with (fields_from (map child_of (drop l.i l.b))) (ids_of (drop l.i l.b_fields))) ≡ have_same_kinds (fields_with (fields_from (map child_of l.a)) (ids_of l.a_fields)) (fields_with (fields_from (map child_of l.b)) (ids_of l.b_fields))
