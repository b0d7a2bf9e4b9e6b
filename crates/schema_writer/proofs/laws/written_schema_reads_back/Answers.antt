use Rattle.schema_writer.proofs.RoundTrip.{reads_back}
use Rattle.schema_writer.proofs.laws.written_schema_reads_back.Goals as goal

pub returns : goal.returns
returns c = reads_back
