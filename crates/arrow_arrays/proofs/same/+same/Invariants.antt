use Rattle.std.proofs.Common.{◌≡◌, ℕ, ◌+◌, ◌*◌, ◌<◌, slice_get, take}
use Rattle.arrow_arrays.specs.Heads.{across}
use Rattle.arrow_arrays.specs.Parts.{cells_in, cells_each, tree_size, trees_size}
use Rattle.arrow_arrays.specs.PartsOf.{parts_of, forest_of}
use Rattle.arrow_arrays.specs.RowCells.{value_size}
use Rattle.arrow_arrays.proofs.same.+same.Given as goal

abbrev pub decreases-is_same_value : goal.decreases-is_same_value
decreases-is_same_value l = value_size l.a

abbrev pub decreases-have_same_rows : goal.decreases-have_same_rows
decreases-have_same_rows l = 3 * tree_size (parts_of l.a.now) + 1

abbrev pub decreases-have_same_row : goal.decreases-have_same_row
decreases-have_same_row l = 3 * trees_size (forest_of l.a.now) + 2

abbrev pub invariant-have_same_rows-loop-row : goal.invariant-have_same_rows-loop-row
invariant-have_same_rows-loop-row l = (k : ℕ) → k < l.row → slice_get (cells_in (parts_of l.a)) (l.from + k) ≡ slice_get (cells_in (parts_of l.b)) (l.start + k)

abbrev pub invariant-have_same_row-loop-i : goal.invariant-have_same_row-loop-i
invariant-have_same_row-loop-i l = across (cells_each (forest_of (take l.i l.a))) l.row ≡ across (cells_each (forest_of (take l.i l.b))) l.place
