use Rattle.laws_sent.proofs.Starts.{refused_as_file}
use Rattle.laws_sent.proofs.schema_laws.refused_as_file.Goals as goal

pub returns : goal.returns
returns c = refused_as_file
