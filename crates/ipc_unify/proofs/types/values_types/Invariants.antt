use Rattle.std.proofs.Common.{◌≡◌, ◌++◌, map}
use Rattle.arrow_types.specs.KindOf.{kind_of}
use Rattle.arrow_types.specs.Schemas.{fields_in, keyed}
use Rattle.laws_unify.specs.United.{values_kinds}
use Rattle.ipc_unify.proofs.types.values_types.Given as goal

abbrev pub invariant-loop-field : goal.invariant-loop-field
invariant-loop-field l = map kind_of l.types.items ++ values_kinds (fields_in (keyed l.field-iterator)) ≡ values_kinds (fields_in l.schema)
