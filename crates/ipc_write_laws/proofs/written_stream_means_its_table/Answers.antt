use Rattle.ipc_write_laws.proofs.Streams.{written_stream_means}
use Rattle.ipc_write_laws.proofs.written_stream_means_its_table.Goals as goal

pub returns : goal.returns
returns c = written_stream_means
