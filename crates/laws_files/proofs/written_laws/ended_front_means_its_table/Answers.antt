use Rattle.laws_files.proofs.Tables as law
use Rattle.laws_files.proofs.written_laws.ended_front_means_its_table.Goals as goal

pub returns : goal.returns
returns c = law.ended_means c.footer_reads_back.ensures
