use Rattle.laws_sent.proofs.ReadParts.{parts_asked}
use Rattle.laws_sent.proofs.part_laws.parts_are_of_asked.Goals as goal

pub returns : goal.returns
returns c = parts_asked
