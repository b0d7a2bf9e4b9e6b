use Rattle.laws_files.proofs.CutFiles as law
use Rattle.laws_files.proofs.written_laws.cut_file_means_its_batches.Goals as goal

pub returns : goal.returns
returns c = law.cut_means
