use Rattle.std.proofs.Common.{◌+◌, ◌*◌, take}
use Rattle.arrow_arrays.specs.Parts.{tree_size, trees_size}
use Rattle.arrow_arrays.specs.PartsOf.{forest_of, parts_of}
use Rattle.laws_unify.specs.Single.{AreSingle}
use Rattle.ipc_unify.proofs.batches.+single.Given as goal

abbrev pub decreases-know_single : goal.decreases-know_single
decreases-know_single l = 2 * tree_size (parts_of l.array.now)

abbrev pub decreases-know_each_single : goal.decreases-know_each_single
decreases-know_each_single l = 2 * trees_size (forest_of l.arrays.now) + 1

abbrev pub invariant-know_each_single-loop-array : goal.invariant-know_each_single-loop-array
invariant-know_each_single-loop-array l = AreSingle (forest_of (take l.array-index l.arrays))
