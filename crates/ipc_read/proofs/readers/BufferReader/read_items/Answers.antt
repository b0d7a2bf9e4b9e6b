use Rattle.std.proofs.Common.{arith, refl}
use Rattle.ipc_read.proofs.LeafArrays.{no_bytes}
use Rattle.ipc_read.proofs.Refusals.{passed, within_next, at_batch}
use Rattle.ipc_read.proofs.readers.BufferReader.read_items.Goals as goal

pub returns-then-rows-gt0-clause-gives : goal.returns-then-rows-gt0-clause-gives
returns-then-rows-gt0-clause-gives g c = λ m i l t.
    let q = at_batch c.read_numbers.result _ _ m i c.read_numbers.ensures.takes l in
    passed _ c.read_numbers.result c.args.rows m.buffers i _ _ _ (omega arith) refl (within_next c.read_numbers.result m.buffers i _ q) (c.read_numbers.ensures.gives m i l t)

pub returns-clause-bytes : goal.returns-clause-bytes
returns-clause-bytes g c = λ m i l t. no_bytes m i g.T.NativeType.WIDTH c.args.rows (omega arith)
