use Rattle.std.proofs.Common.{◌≡◌, map, take}
use Rattle.arrow_arrays.specs.PartsOf.{all_parts_of}
use Rattle.array_filter.specs.Rows.{marked_from}
use Rattle.array_filter.specs.Taken.{rows_taken}
use Rattle.ipc_scan.proofs.keep.keep_each.Given as goal

abbrev pub invariant-loop-array : goal.invariant-loop-array
invariant-loop-array l = all_parts_of l.kept.items ≡ map (rows_taken (marked_from 0 l.marks)) (all_parts_of (take l.array-index l.arrays))
