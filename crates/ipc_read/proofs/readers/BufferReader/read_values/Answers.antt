use Rattle.std.proofs.Common.{arith}
use Rattle.ipc_read.proofs.Refusals.{passed, within_next, at_batch}
use Rattle.ipc_read.proofs.VariableArrays.{values_some}
use Rattle.ipc_read.proofs.readers.BufferReader.read_values.Goals as goal

pub returns-then-rows-gt0-clause-gives : goal.returns-then-rows-gt0-clause-gives
returns-then-rows-gt0-clause-gives g c = λ m i l t.
    let q = at_batch c.read_bytes.result _ _ m i c.read_bytes.ensures.takes l in
    passed _ c.read_bytes.result c.args.rows m.buffers i _ _ _ (omega arith) (values_some m i c.args.rows (omega arith)) (within_next c.read_bytes.result m.buffers i _ q) (c.read_bytes.ensures.gives m i l t)
