use Rattle.std.proofs.Common.{◌+◌, ◌*◌}
use Rattle.arrow_arrays.specs.Heads.{indexed}
use Rattle.arrow_arrays.specs.Parts.{nested, tree_size}
use Rattle.arrow_arrays.specs.PartsOf.{parts_of}
use Rattle.row_filters.proofs.marks.+meets.Given as goal

abbrev pub decreases-meets : goal.decreases-meets
decreases-meets l = 2 * tree_size (parts_of l.array.now) + 1

abbrev pub decreases-value_meets : goal.decreases-value_meets
decreases-value_meets l = 2 * tree_size (nested (indexed l.array.now.head) l.array.now.children)
