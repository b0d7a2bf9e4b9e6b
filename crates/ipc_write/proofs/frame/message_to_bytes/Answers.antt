use Rattle.std.proofs.Common.{◌<◌, length, ap, subst, sym, ◌∙◌}
use Rattle.ipc_write.specs.Outcomes.{message_frame}
use Rattle.ipc_write.proofs.Written.{frame_some, framed_whole}
use Rattle.ipc_write.proofs.frame.message_to_bytes.Goals as goal

pub returns-clause-message : goal.returns-clause-message
returns-clause-message c = λ n e h. c.in_ok-joined.ensures ∙ ap (λ m. message_frame m c.args.body.now) e ∙ framed_whole n c.args.body.now h

pub returns-clause-some : goal.returns-clause-some
returns-clause-some c = subst (λ l. 0 < length l) (sym c.in_ok-joined.ensures) (frame_some c.args.metadata.now c.args.body.now)
