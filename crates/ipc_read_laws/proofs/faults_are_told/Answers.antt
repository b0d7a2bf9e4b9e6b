use Rattle.ipc_read_laws.proofs.faults_are_told.Goals as goal
use Rattle.ipc_read_laws.proofs.LayoutLaws as law

pub returns : goal.returns
returns c = law.faults_told
