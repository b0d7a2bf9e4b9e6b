use Rattle.laws_unify.proofs.Parts.{parts_are_the_list}
use Rattle.laws_unify.proofs.parts_are_the_list.Goals as goal

pub returns : goal.returns
returns c = parts_are_the_list
