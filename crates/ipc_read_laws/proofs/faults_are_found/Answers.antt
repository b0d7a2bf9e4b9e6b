use Rattle.ipc_read_laws.proofs.faults_are_found.Goals as goal
use Rattle.ipc_read_laws.proofs.FaultLaws as law

pub returns : goal.returns
returns c = law.fault_read
