use Rattle.std.proofs.Common.{drop}
use Rattle.ipc_messages.proofs.Framing.{IsLeft}
use Rattle.ipc_messages.proofs.framed.framed_each.Given as goal

abbrev pub invariant-loop-encoded : goal.invariant-loop-encoded
invariant-loop-encoded l = IsLeft l.limit l.each.items (drop l.encoded-index l.messages) l.messages
