use Rattle.arrow_spec.proofs.BatchTables.{dictionary_message_back}
use Rattle.arrow_spec.proofs.laws.dictionary_message_reads_back.Goals as goal

pub returns : goal.returns
returns c = dictionary_message_back
