use Rattle.arrow_spec.proofs.BatchTables.{batch_message_back}
use Rattle.arrow_spec.proofs.laws.batch_message_reads_back.Goals as goal

pub returns : goal.returns
returns c = batch_message_back
