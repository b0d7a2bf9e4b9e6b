use Rattle.std.proofs.Common.{◌≡◌, take}
use Rattle.arrow_buffers.proofs.buffer.Buffer.to_vec.Given as goal

abbrev pub invariant-loop-i : goal.invariant-loop-i
invariant-loop-i g l = l.items.items ≡ take l.i l.self
