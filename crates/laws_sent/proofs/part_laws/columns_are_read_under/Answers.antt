use Rattle.laws_sent.proofs.NextParts.{columns_under}
use Rattle.laws_sent.proofs.part_laws.columns_are_read_under.Goals as goal

pub returns : goal.returns
returns c = columns_under
