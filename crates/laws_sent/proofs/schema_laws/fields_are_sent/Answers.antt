use Rattle.laws_sent.proofs.SentFields.{are_sent_fields}
use Rattle.laws_sent.proofs.schema_laws.fields_are_sent.Goals as goal

pub returns : goal.returns
returns c = are_sent_fields
