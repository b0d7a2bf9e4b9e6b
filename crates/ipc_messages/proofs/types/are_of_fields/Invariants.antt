use Rattle.std.proofs.Common.{◌≡◌, drop, map}
use Rattle.arrow_spec.specs.Kinds.{have_same_kinds}
use Rattle.arrow_types.specs.Child.{fields_from}
use Rattle.arrow_types.specs.Schemas.{fields_in}
use Rattle.arrow_arrays.specs.PartsOf.{forest_of}
use Rattle.arrow_arrays.specs.Columns.{columns_of}
use Rattle.ipc_messages.proofs.Columns.{child_in}
use Rattle.ipc_messages.proofs.types.are_of_fields.Given as goal

abbrev pub invariant-loop-i : goal.invariant-loop-i
invariant-loop-i l = record {
  left : have_same_kinds (fields_in l.schema) (columns_of (forest_of l.arrays)) ≡ have_same_kinds (fields_from (drop l.i (map child_in l.schema))) (columns_of (forest_of (drop l.i l.arrays)));
}
