use Rattle.laws_files.proofs.file_laws.footer_reads_back.Goals as goal
use Rattle.laws_files.proofs.FooterTables as law

pub returns : goal.returns
returns c = law.footer_back
