use Rattle.ipc_to_file.proofs.laws.large_keys_are_of_the_bytes.Goals as goal
use Rattle.ipc_to_file.proofs.LargeKeys as law

pub returns : goal.returns
returns c = law.large_of_bytes
