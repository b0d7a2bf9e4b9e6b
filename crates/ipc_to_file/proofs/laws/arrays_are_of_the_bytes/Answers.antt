use Rattle.ipc_to_file.proofs.laws.arrays_are_of_the_bytes.Goals as goal
use Rattle.ipc_to_file.proofs.LargeKeys as law

pub returns : goal.returns
returns c = law.arrays_of_bytes
