use Rattle.ipc_read.proofs.Passing.{node_queues}
use Rattle.ipc_read.proofs.skips.skip_null.Goals as goal

pub returns-clause-queues : goal.returns-clause-queues
returns-clause-queues c = node_queues c.pass.result _ _ c.pass.ensures.enough c.pass.ensures.rest
