use Rattle.std.proofs.Common.{arith}
use Rattle.ipc_read.proofs.Refusals.{passed, within_next, at_batch, rows_bytes}
use Rattle.ipc_read.proofs.readers.BufferReader.read_rows.Goals as goal

pub returns-then-rows-gt0-clause-gives : goal.returns-then-rows-gt0-clause-gives
returns-then-rows-gt0-clause-gives g c = λ m i l t.
    let q = at_batch c.read_first.result _ _ m i c.read_first.ensures.takes l in
    passed _ c.read_first.result c.args.rows m.buffers i _ _ _ (omega arith) (rows_bytes m c.args.size i c.args.rows (omega arith)) (within_next c.read_first.result m.buffers i _ q) (c.read_first.ensures.gives m i l t)
