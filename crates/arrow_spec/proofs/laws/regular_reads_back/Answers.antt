use Rattle.arrow_spec.proofs.RegularSchemas.{regular_back}
use Rattle.arrow_spec.proofs.laws.regular_reads_back.Goals as goal

pub returns : goal.returns
returns c = regular_back
