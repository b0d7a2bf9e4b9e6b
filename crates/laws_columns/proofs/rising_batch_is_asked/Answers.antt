use Rattle.laws_columns.proofs.RisingBatches.{rising_asked}
use Rattle.laws_columns.proofs.rising_batch_is_asked.Goals as goal

pub returns : goal.returns
returns c = rising_asked
