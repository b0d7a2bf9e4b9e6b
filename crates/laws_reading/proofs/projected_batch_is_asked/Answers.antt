use Rattle.laws_reading.proofs.Projected.{projected_batch_is_asked}
use Rattle.laws_reading.proofs.projected_batch_is_asked.Goals as goal

pub returns : goal.returns
returns c = projected_batch_is_asked
