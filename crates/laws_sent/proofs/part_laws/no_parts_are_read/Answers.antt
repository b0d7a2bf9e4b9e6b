use Rattle.laws_sent.proofs.ReadParts.{no_parts}
use Rattle.laws_sent.proofs.part_laws.no_parts_are_read.Goals as goal

pub returns : goal.returns
returns c = no_parts
