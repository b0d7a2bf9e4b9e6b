use Rattle.laws_files.proofs.file_laws.too_large_where_a_message_is.Goals as goal
use Rattle.laws_files.proofs.TooLarge as law

pub returns : goal.returns
returns c = law.too_large_where_a_message_is
