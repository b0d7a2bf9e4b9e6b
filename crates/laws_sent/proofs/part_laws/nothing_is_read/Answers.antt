use Rattle.laws_sent.proofs.NextParts.{nothing_read}
use Rattle.laws_sent.proofs.part_laws.nothing_is_read.Goals as goal

pub returns : goal.returns
returns c = nothing_read
