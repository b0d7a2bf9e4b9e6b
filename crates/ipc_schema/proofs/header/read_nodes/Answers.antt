use Rattle.std.proofs.Common.{arith}
use Rattle.ipc_schema.proofs.Items.{all_read}
use Rattle.ipc_schema.proofs.header.read_nodes.Goals as goal

pub returns : goal.returns
returns c = record { gives = all_read _ _ _ _ _ (omega arith) c.loop-i.invariant }
