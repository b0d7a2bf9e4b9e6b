use Rattle.laws_files.proofs.Tables as law
use Rattle.laws_files.proofs.written_laws.front_goes_on.Goals as goal

pub returns : goal.returns
returns c = law.front_goes_on
