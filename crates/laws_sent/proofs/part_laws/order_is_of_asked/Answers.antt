use Rattle.laws_sent.proofs.NextParts.{order_asked}
use Rattle.laws_sent.proofs.part_laws.order_is_of_asked.Goals as goal

pub returns : goal.returns
returns c = order_asked
