use Rattle.arrow_spec.proofs.RegularSchemas.{stream_schema_back}
use Rattle.arrow_spec.proofs.laws.stream_schema_reads_back.Goals as goal

pub returns : goal.returns
returns c = stream_schema_back
