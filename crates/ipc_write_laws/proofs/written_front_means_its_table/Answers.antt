use Rattle.ipc_write_laws.proofs.Streams.{written_front_means}
use Rattle.ipc_write_laws.proofs.written_front_means_its_table.Goals as goal

pub returns : goal.returns
returns c = written_front_means
