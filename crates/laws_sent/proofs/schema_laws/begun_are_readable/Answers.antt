use Rattle.laws_sent.proofs.SentMessages.{begun_readable}
use Rattle.laws_sent.proofs.schema_laws.begun_are_readable.Goals as goal

pub returns : goal.returns
returns c = begun_readable
