use Rattle.arrow_spec.proofs.NestedSchemas.{schema_message_back}
use Rattle.arrow_spec.proofs.laws.schema_message_reads_back.Goals as goal

pub returns : goal.returns
returns c = schema_message_back
