use Rattle.laws_unify.proofs.Fits.{nothing_is_added_twice}
use Rattle.laws_unify.proofs.nothing_is_added_twice.Goals as goal

pub returns : goal.returns
returns c = nothing_is_added_twice
