use Rattle.laws_sent.proofs.NextParts.{held_parts}
use Rattle.laws_sent.proofs.part_laws.held_parts_are_read.Goals as goal

pub returns : goal.returns
returns c = held_parts
