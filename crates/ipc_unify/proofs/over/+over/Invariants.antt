use Rattle.std.proofs.Common.{◌+◌, ◌*◌}
use Rattle.arrow_arrays.specs.Parts.{tree_size, trees_size}
use Rattle.arrow_arrays.specs.PartsOf.{forest_of, parts_of}
use Rattle.ipc_unify.specs.Steps.{Same, lists_of}
use Rattle.ipc_unify.proofs.OverSteps.{ArraysOver}
use Rattle.ipc_unify.proofs.over.+over.Given as goal

abbrev pub decreases-array_over : goal.decreases-array_over
decreases-array_over l = 2 * tree_size (parts_of l.array.now)

abbrev pub decreases-arrays_over : goal.decreases-arrays_over
decreases-arrays_over l = 2 * trees_size (forest_of l.arrays.now) + 1

abbrev pub invariant-arrays_over-loop-array : goal.invariant-arrays_over-loop-array
invariant-arrays_over-loop-array l = record { over : ArraysOver (lists_of l.fn.lists.items) l.arrays l.number l.over.items l.array-index l.next; same : Same l.fn.lists.items l.lists.items }
