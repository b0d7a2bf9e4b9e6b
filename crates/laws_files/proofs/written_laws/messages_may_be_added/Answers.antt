use Rattle.laws_files.proofs.MoreBatches as law
use Rattle.laws_files.proofs.written_laws.messages_may_be_added.Goals as goal

pub returns : goal.returns
returns c = law.may_be_added
