use Rattle.ipc_write_laws.proofs.Batches.{columns_read}
use Rattle.ipc_write_laws.proofs.columns_read_back.Goals as goal

pub returns : goal.returns
returns c = columns_read
