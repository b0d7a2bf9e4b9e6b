use Rattle.ipc_read_laws.proofs.written_as_sent.Goals as goal
use Rattle.ipc_read_laws.proofs.TreesWritten as law

pub returns : goal.returns
returns c = law.all_written
