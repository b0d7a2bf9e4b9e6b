use Rattle.ipc_read.proofs.Passing.{parts_queues}
use Rattle.ipc_read.proofs.Shortened.{none_taken}
use Rattle.ipc_read.proofs.skips.skip_parts.Goals as goal

pub returns-clause-queues : goal.returns-clause-queues
returns-clause-queues c = parts_queues c.pass-2.result _ _ _ _ _ c.in_ok-pass.ensures.enough c.in_ok-pass.ensures.rest c.pass-2.ensures.enough c.pass-2.ensures.rest

pub returns-in_err-pass-clause-buffers : goal.returns-in_err-pass-clause-buffers
returns-in_err-pass-clause-buffers c = none_taken c.args.count _
