use Rattle.laws_sent.proofs.ReadParts.{one_more_part}
use Rattle.laws_sent.proofs.part_laws.one_more_part_is_read.Goals as goal

pub returns : goal.returns
returns c = one_more_part
