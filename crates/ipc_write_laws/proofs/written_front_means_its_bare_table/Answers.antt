use Rattle.ipc_write_laws.proofs.Streams.{bare_front_means}
use Rattle.ipc_write_laws.proofs.written_front_means_its_bare_table.Goals as goal

pub returns : goal.returns
returns c = bare_front_means
