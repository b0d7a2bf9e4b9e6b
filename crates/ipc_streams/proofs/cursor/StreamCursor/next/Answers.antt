use Rattle.std.proofs.Common.{Ok, ap, refl, ◌∙◌}
use Rattle.ipc_streams.proofs.NextStates.{none_next, state_next}
use Rattle.ipc_streams.proofs.cursor.StreamCursor.next.Goals as goal

pub returns-in-Some : goal.returns-in-Some
returns-in-Some g c = state_next _ _ _ _ _ _ _ c.if-self.false c.read_next.result c.read_next.ensures c.in-Some.state (c.in-Ok.is ∙ ap Ok c.in-Some.is)

pub returns-in-None : goal.returns-in-None
returns-in-None g c = none_next _ _ _ _ _ _ c.read_next.new.self c.if-self.false c.read_next.result c.read_next.ensures _ (c.in-Ok.is ∙ ap Ok c.in-None.is) refl refl refl
