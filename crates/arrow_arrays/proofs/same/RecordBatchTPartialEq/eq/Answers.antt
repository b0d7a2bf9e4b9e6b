use Rattle.arrow_arrays.proofs.SameBatches.{same_holdings}
use Rattle.arrow_arrays.proofs.same.RecordBatchTPartialEq.eq.Goals as goal

pub returns-clause-eq : goal.returns-clause-eq
returns-clause-eq c = same_holdings c.is_same_batch.result c.args.self.now c.args.other.now c.is_same_batch.ensures
