use Rattle.std.proofs.Common.{arith}
use Rattle.ipc_schema.proofs.Items.{all_read}
use Rattle.ipc_schema.proofs.footer.read_blocks.Goals as goal

pub returns-clause-gives : goal.returns-clause-gives
returns-clause-gives c = all_read _ _ _ _ _ (omega arith) c.loop-i.invariant.read
