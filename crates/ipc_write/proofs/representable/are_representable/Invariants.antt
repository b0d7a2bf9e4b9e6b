use Rattle.std.proofs.Common.{◌≡◌, drop}
use Rattle.arrow_arrays.specs.PartsOf.{forest_of}
use Rattle.arrow_arrays.specs.Columns.{columns_of}
use Rattle.ipc_fields.specs.Representable.{all_representable}
use Rattle.ipc_write.proofs.representable.are_representable.Given as goal

abbrev pub invariant-loop-array : goal.invariant-loop-array
invariant-loop-array l = all_representable (columns_of (forest_of (drop l.array-index l.arrays))) ≡ all_representable (columns_of (forest_of l.arrays))
