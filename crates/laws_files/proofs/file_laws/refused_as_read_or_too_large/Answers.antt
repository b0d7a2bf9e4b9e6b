use Rattle.laws_files.proofs.file_laws.refused_as_read_or_too_large.Goals as goal
use Rattle.laws_files.proofs.TooLargeAt as law

pub returns : goal.returns
returns c = law.refused_as_read_or_too_large
