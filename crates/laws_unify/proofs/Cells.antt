-- The test of two cells tells whether they are one.
use Rattle.std.proofs.Common.{refl}
use Rattle.arrow_types.specs.KindCode.{by_tree_itself, by_tree_sound}
use Rattle.arrow_arrays.specs.CellCode.{cell_from, cell_from-cell_to, cell_to}
use Rattle.laws_unify.specs.Lists.{IsTest}
use Rattle.laws_unify.specs.Over.{is_same_cell}

pub is_cell_test : IsTest is_same_cell
unfolding is_same_cell
is_cell_test = record { sound = λ x y h. by_tree_sound cell_to cell_from cell_from-cell_to x y h; same_itself = λ x. by_tree_itself cell_to x x refl }
