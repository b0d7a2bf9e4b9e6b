use Rattle.laws_unify.proofs.Fits.{fit_stays}
use Rattle.laws_unify.proofs.fit_stays.Goals as goal

pub returns : goal.returns
returns c = fit_stays
