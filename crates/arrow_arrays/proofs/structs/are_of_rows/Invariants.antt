use Rattle.std.proofs.Common.{◌≡◌, drop, take, None}
use Rattle.arrow_arrays.specs.Heads.{are_all}
use Rattle.arrow_arrays.specs.Parts.{rows_each, fault_each}
use Rattle.arrow_arrays.specs.PartsOf.{forest_of}
use Rattle.arrow_arrays.proofs.structs.are_of_rows.Given as goal

abbrev pub invariant-loop-array : goal.invariant-loop-array
invariant-loop-array l = (are_all l.rows (rows_each (forest_of (drop l.array-index l.values))) ≡ are_all l.rows (rows_each (forest_of l.values))) × (fault_each (forest_of (take l.array-index l.values)) ≡ None)
