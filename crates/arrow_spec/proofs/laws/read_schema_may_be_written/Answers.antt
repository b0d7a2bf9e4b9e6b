use Rattle.arrow_spec.proofs.ReadSchemas.{read_may}
use Rattle.arrow_spec.proofs.laws.read_schema_may_be_written.Goals as goal

pub returns : goal.returns
returns c = read_may
