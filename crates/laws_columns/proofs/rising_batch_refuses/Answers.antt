use Rattle.laws_columns.proofs.RisingBatches.{rising_refuses}
use Rattle.laws_columns.proofs.rising_batch_refuses.Goals as goal

pub returns : goal.returns
returns c = rising_refuses
