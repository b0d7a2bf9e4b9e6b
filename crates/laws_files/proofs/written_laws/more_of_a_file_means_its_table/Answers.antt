use Rattle.laws_files.proofs.Tables as law
use Rattle.laws_files.proofs.written_laws.more_of_a_file_means_its_table.Goals as goal

pub returns : goal.returns
returns c = law.more_means c.footer_reads_back.ensures
