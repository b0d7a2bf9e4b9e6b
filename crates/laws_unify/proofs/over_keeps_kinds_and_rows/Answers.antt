use Rattle.laws_unify.proofs.Over.{over_keeps_kinds_and_rows}
use Rattle.laws_unify.proofs.over_keeps_kinds_and_rows.Goals as goal

pub returns : goal.returns
returns c = over_keeps_kinds_and_rows
