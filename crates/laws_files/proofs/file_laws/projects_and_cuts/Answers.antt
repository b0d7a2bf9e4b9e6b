use Rattle.laws_files.proofs.file_laws.projects_and_cuts.Goals as goal
use Rattle.laws_files.proofs.Cuts as law

pub returns : goal.returns
returns c = law.projects_and_cuts
