use Rattle.laws_files.proofs.Tables as law
use Rattle.laws_files.proofs.written_laws.only_begun_means_nothing.Goals as goal

pub returns : goal.returns
returns c = law.only_begun_means
