use Rattle.laws_files.proofs.file_laws.depends_on_needed.Goals as goal
use Rattle.laws_files.proofs.NeededParts as law

pub returns : goal.returns
returns c = law.depends_on_needed
