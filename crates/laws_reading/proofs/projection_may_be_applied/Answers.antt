use Rattle.laws_reading.proofs.Projected.{projection_may_be_applied}
use Rattle.laws_reading.proofs.projection_may_be_applied.Goals as goal

pub returns : goal.returns
returns c = projection_may_be_applied
