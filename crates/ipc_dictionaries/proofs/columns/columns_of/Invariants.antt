use Rattle.std.proofs.Common.{◌≡◌, map, take}
use Rattle.arrow_types.specs.KindOf.{child_of}
use Rattle.ipc_dictionaries.proofs.ColumnSteps.{column}
use Rattle.ipc_dictionaries.proofs.columns.columns_of.Given as goal

abbrev pub invariant-loop-array : goal.invariant-loop-array
invariant-loop-array l = map child_of l.columns.items ≡ map column (take l.array-index l.arrays)
