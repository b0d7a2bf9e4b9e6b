use Rattle.laws_sent.proofs.SentMessages.{unread_refused}
use Rattle.laws_sent.proofs.schema_laws.unread_are_refused.Goals as goal

pub returns : goal.returns
returns c = unread_refused
