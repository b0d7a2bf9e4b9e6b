use Rattle.ipc_read_laws.proofs.parts_are_sound.Goals as goal
use Rattle.ipc_read_laws.proofs.TreesSound as law

pub returns : goal.returns
returns c = law.parts_sound
