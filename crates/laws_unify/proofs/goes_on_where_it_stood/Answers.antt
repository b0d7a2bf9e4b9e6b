use Rattle.laws_unify.proofs.Fits.{goes_on_where_it_stood}
use Rattle.laws_unify.proofs.goes_on_where_it_stood.Goals as goal

pub returns : goal.returns
returns c = goes_on_where_it_stood
