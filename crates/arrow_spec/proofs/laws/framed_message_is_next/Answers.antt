use Rattle.arrow_spec.proofs.NextMessages.{framed_message_is_next}
use Rattle.arrow_spec.proofs.laws.framed_message_is_next.Goals as goal

pub returns : goal.returns
returns c = framed_message_is_next
