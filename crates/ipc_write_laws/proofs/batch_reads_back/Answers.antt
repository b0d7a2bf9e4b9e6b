use Rattle.ipc_write_laws.proofs.Batches.{batch_read}
use Rattle.ipc_write_laws.proofs.batch_reads_back.Goals as goal

pub returns : goal.returns
returns c = batch_read
