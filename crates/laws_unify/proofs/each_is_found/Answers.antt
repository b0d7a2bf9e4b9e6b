use Rattle.laws_unify.proofs.Fits.{each_is_found}
use Rattle.laws_unify.proofs.each_is_found.Goals as goal

pub returns : goal.returns
returns c = each_is_found
