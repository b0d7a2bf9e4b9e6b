use Rattle.std.proofs.Common.{◌≡◌, ◌++◌, drop, map}
use Rattle.arrow_types.specs.KindOf.{fields_of, kind_of}
use Rattle.laws_unify.specs.United.{values_kinds}
use Rattle.ipc_unify.proofs.types.+values.Given as goal

abbrev pub invariant-push_under-loop-field : goal.invariant-push_under-loop-field
invariant-push_under-loop-field l = map kind_of l.types.items ++ values_kinds (fields_of (drop l.field-index l.fields)) ≡ map kind_of l.fn.types.items ++ values_kinds (fields_of l.fields)
