use Rattle.std.proofs.Common.{◌≡◌, true, false}
use Rattle.ipc_tool.proofs.commands.log.log_target.Goals as goal

pub returns-then-asked-clause-does : goal.returns-then-asked-clause-does
returns-then-asked-clause-does g c = rw c.if-asked.true c.append_log.ensures.does

pub returns-then-asked-clause-unread : goal.returns-then-asked-clause-unread
returns-then-asked-clause-unread g c = rw c.if-asked.true (λ unread. let never : true ≡ false = unread in cc)

pub returns-then-asked-clause-survives : goal.returns-then-asked-clause-survives
returns-then-asked-clause-survives g c = rw c.if-asked.true c.append_log.ensures.survives

pub returns-clause-does : goal.returns-clause-does
returns-clause-does g c = rw c.if-asked.false c.show_log.ensures.does

pub returns-clause-unread : goal.returns-clause-unread
returns-clause-unread g c = λ unread. c.show_log.ensures.unread

pub returns-clause-survives : goal.returns-clause-survives
returns-clause-survives g c = rw c.if-asked.false c.show_log.ensures.survives
