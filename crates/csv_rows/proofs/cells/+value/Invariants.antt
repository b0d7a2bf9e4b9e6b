use Rattle.std.proofs.Common.{◌+◌, ◌*◌}
use Rattle.arrow_arrays.specs.Heads.{indexed}
use Rattle.arrow_arrays.specs.Parts.{nested, tree_size}
use Rattle.arrow_arrays.specs.PartsOf.{parts_of}
use Rattle.csv_rows.proofs.cells.+value.Given as goal

abbrev pub decreases-value_in : goal.decreases-value_in
decreases-value_in l = 2 * tree_size (parts_of l.array.now) + 1

abbrev pub decreases-dictionary_in : goal.decreases-dictionary_in
decreases-dictionary_in l = 2 * tree_size (nested (indexed l.array.now.head) l.array.now.children)
