use Rattle.laws_sent.proofs.FileSent.{file_sent}
use Rattle.laws_sent.proofs.dictionary_laws.file_dictionaries_are_sent.Goals as goal

pub returns : goal.returns
returns c = file_sent
