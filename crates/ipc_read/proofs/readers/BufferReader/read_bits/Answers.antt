use Rattle.std.proofs.Common.{arith, refl}
use Rattle.ipc_read.proofs.Refusals.{passed, within_next, at_batch}
use Rattle.ipc_read.proofs.readers.BufferReader.read_bits.Goals as goal

pub returns-then-rows-gt0-clause-gives : goal.returns-then-rows-gt0-clause-gives
returns-then-rows-gt0-clause-gives g c = λ m i l t.
    let q = at_batch c.read_bitmap.result _ _ m i c.read_bitmap.ensures.takes l in
    passed _ c.read_bitmap.result c.args.rows m.buffers i _ _ _ (omega arith) refl (within_next c.read_bitmap.result m.buffers i _ q) (c.read_bitmap.ensures.gives m i l t)
