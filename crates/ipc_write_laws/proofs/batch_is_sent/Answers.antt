use Rattle.ipc_write_laws.proofs.SentBatches.{batch_sent}
use Rattle.ipc_write_laws.proofs.batch_is_sent.Goals as goal

pub returns : goal.returns
returns c = batch_sent
