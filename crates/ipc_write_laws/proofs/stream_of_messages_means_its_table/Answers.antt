use Rattle.ipc_write_laws.proofs.Messages.{messages_stream_means}
use Rattle.ipc_write_laws.proofs.stream_of_messages_means_its_table.Goals as goal

pub returns : goal.returns
returns c = messages_stream_means
