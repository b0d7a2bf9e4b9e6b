use Rattle.laws_logs.proofs.Lifting.{one_batch_more}
use Rattle.laws_logs.proofs.record_is_batch.Goals as goal

pub returns : goal.returns
returns c = one_batch_more
