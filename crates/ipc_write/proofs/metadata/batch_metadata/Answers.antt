use Rattle.std.proofs.Common.{arith}
use Rattle.ipc_write.proofs.Headers.{many_nodes, many_buffers}
use Rattle.ipc_write.proofs.metadata.batch_metadata.Goals as goal

pub returns-then-nodes-ge-TOO_MANY-clause-builds : goal.returns-then-nodes-ge-TOO_MANY-clause-builds
returns-then-nodes-ge-TOO_MANY-clause-builds c = many_nodes c.args.content c.args.rows c.args.body c.args.nodes.now c.args.buffers.now c.args.counts.items (omega arith)

pub returns-then-buffers-ge-TOO_MANY-clause-builds : goal.returns-then-buffers-ge-TOO_MANY-clause-builds
returns-then-buffers-ge-TOO_MANY-clause-builds c = many_buffers c.args.content c.args.rows c.args.body c.args.nodes.now c.args.buffers.now c.args.counts.items (omega arith)
