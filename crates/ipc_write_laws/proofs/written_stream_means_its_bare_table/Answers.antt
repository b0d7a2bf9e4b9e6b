use Rattle.ipc_write_laws.proofs.Streams.{bare_stream_means}
use Rattle.ipc_write_laws.proofs.written_stream_means_its_bare_table.Goals as goal

pub returns : goal.returns
returns c = bare_stream_means
