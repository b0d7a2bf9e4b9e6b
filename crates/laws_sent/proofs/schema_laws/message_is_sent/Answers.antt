use Rattle.laws_sent.proofs.SentMessages.{message_sent}
use Rattle.laws_sent.proofs.schema_laws.message_is_sent.Goals as goal

pub returns : goal.returns
returns c = message_sent
