use Rattle.arrow_spec.proofs.Back.{layout_back}
use Rattle.arrow_spec.proofs.laws.layout_reads_back.Goals as goal

pub returns : goal.returns
returns c = layout_back
