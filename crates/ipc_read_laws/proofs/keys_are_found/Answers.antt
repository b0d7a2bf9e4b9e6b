use Rattle.ipc_read_laws.proofs.keys_are_found.Goals as goal
use Rattle.ipc_read_laws.proofs.Keys as law

pub returns : goal.returns
returns c = law.keys_found
