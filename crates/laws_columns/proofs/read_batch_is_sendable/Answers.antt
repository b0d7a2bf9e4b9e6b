use Rattle.laws_columns.proofs.ReadBatches.{read_batch_sendable}
use Rattle.laws_columns.proofs.read_batch_is_sendable.Goals as goal

pub returns : goal.returns
returns c = read_batch_sendable
