use Rattle.arrow_spec.proofs.NumberedFields.{numbered_may}
use Rattle.arrow_spec.proofs.laws.numbered_may_be_written.Goals as goal

pub returns : goal.returns
returns c = numbered_may
