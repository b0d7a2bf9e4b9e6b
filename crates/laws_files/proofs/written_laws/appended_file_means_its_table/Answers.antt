use Rattle.laws_files.proofs.CutFiles as law
use Rattle.laws_files.proofs.written_laws.appended_file_means_its_table.Goals as goal

pub returns : goal.returns
returns c = law.appended_means c.more_of_a_file_means_its_table.ensures
