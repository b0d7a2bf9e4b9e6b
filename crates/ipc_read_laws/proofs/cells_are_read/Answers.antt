use Rattle.ipc_read_laws.proofs.cells_are_read.Goals as goal
use Rattle.ipc_read_laws.proofs.TreesCells as law

pub returns : goal.returns
returns c = law.cells_read
