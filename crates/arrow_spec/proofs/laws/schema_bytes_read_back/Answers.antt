use Rattle.arrow_spec.proofs.NestedSchemas.{schema_bytes_back}
use Rattle.arrow_spec.proofs.laws.schema_bytes_read_back.Goals as goal

pub returns : goal.returns
returns c = schema_bytes_back
