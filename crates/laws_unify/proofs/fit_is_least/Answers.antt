use Rattle.laws_unify.proofs.Fits.{fit_is_least}
use Rattle.laws_unify.proofs.fit_is_least.Goals as goal

pub returns : goal.returns
returns c = fit_is_least
