use Rattle.arrow_spec.proofs.RegularSchemas.{regular_may}
use Rattle.arrow_spec.proofs.laws.regular_may_be_written.Goals as goal

pub returns : goal.returns
returns c = regular_may
