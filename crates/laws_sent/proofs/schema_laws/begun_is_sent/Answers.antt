use Rattle.laws_sent.proofs.Starts.{begun_sent}
use Rattle.laws_sent.proofs.schema_laws.begun_is_sent.Goals as goal

pub returns : goal.returns
returns c = begun_sent
