use Rattle.ipc_to_file.proofs.laws.files_have_no_large_key.Goals as goal
use Rattle.ipc_to_file.proofs.LargeKeys as law

pub returns : goal.returns
returns c = law.no_large_key
