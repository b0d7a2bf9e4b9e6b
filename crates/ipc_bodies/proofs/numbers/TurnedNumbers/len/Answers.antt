use Rattle.std.proofs.Common.{length, ap, sym, ◌∙◌}
use Rattle.ipc_bodies.proofs.Turning.{length_turned}
use Rattle.ipc_bodies.proofs.numbers.TurnedNumbers.len.Goals as goal

pub returns : goal.returns
returns c = c.len.ensures ∙ sym (length_turned c.self.inside.primitive c.self.inside.bytes c.self.invariant.1) ∙ ap length c.self.view_is
