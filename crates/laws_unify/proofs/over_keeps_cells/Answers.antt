use Rattle.laws_unify.proofs.Over.{over_keeps_cells}
use Rattle.laws_unify.proofs.over_keeps_cells.Goals as goal

pub returns : goal.returns
returns c = over_keeps_cells
