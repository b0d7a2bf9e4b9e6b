use Rattle.std.proofs.Common.{◌+◌, ◌*◌}
use Rattle.arrow_arrays.specs.Heads.{indexed}
use Rattle.arrow_arrays.specs.Parts.{nested, tree_size}
use Rattle.arrow_arrays.specs.PartsOf.{parts_of}
use Rattle.arrow_arrays.proofs.+row.Given as goal

abbrev pub decreases-array::Array::row : goal.decreases-array::Array::row
decreases-array::Array::row l = 2 * tree_size (parts_of l.self.now) + 1

abbrev pub decreases-rows::dictionary_in : goal.decreases-rows::dictionary_in
decreases-rows::dictionary_in l = 2 * tree_size (nested (indexed l.array.now.head) l.array.now.children)
