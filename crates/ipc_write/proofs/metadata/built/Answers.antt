use Rattle.ipc_write.proofs.Headers.{keeps_metadata}
use Rattle.ipc_write.proofs.metadata.built.Goals as goal

pub finish-requires-clause-slot_limit : goal.finish-requires-clause-slot_limit
finish-requires-clause-slot_limit c = c.in_ok-node.ensures.slot_limit (keeps_metadata _ _ c.args.content c.args.rows c.args.nodes.now c.args.buffers.now c.args.counts.items c.in_ok-batch.ensures.node c.in_ok-header.ensures)
