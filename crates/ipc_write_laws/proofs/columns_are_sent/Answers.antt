use Rattle.ipc_write_laws.proofs.SentBatches.{columns_sent}
use Rattle.ipc_write_laws.proofs.columns_are_sent.Goals as goal

pub returns : goal.returns
returns c = columns_sent
