use Rattle.ipc_bodies.proofs.Bodies.{passed_end, no_place}
use Rattle.ipc_bodies.proofs.body.end_from.Goals as goal

pub returns-in_err-at : goal.returns-in_err-at
returns-in_err-at c = no_place c.from_residual.result _ c.from_residual.ensures (passed_end c.args.buffers.now c.loop-buffer.buffer-index c.loop-buffer.at _ c.buffer-item.result c.buffer-item.is c.loop-buffer-test.true c.len.result c.len.ensures c.in_err-at.ensures c.loop-buffer.invariant.end)
