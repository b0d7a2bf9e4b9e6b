use Rattle.std.proofs.Common.{sym, ◌∙◌}
use Rattle.ipc_read.proofs.Refusals.{is_left}
use Rattle.ipc_read.proofs.Shortened.{first_taken}
use Rattle.ipc_read.proofs.buffers.take_one.Goals as goal

pub returns-in-Some-clause-takes : goal.returns-in-Some-clause-takes
returns-in-Some-clause-takes g c = λ all i l. let e = c.in-Some.ensures.items in let f = l.is in is_left all i _ _ (sym e ∙ f)

pub returns-in-Some-clause-shortened : goal.returns-in-Some-clause-shortened
returns-in-Some-clause-shortened g c = first_taken c.pop_front.result _ _ c.pop_front.ensures.items

pub returns-in-None-clause-shortened : goal.returns-in-None-clause-shortened
returns-in-None-clause-shortened g c = first_taken c.pop_front.result _ _ c.pop_front.ensures.items
