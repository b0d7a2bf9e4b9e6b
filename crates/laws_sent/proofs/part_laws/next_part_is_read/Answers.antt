use Rattle.laws_sent.proofs.NextParts.{next_part}
use Rattle.laws_sent.proofs.part_laws.next_part_is_read.Goals as goal

pub returns : goal.returns
returns c = next_part
