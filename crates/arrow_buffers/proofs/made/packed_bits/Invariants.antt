use Rattle.arrow_buffers.proofs.Packer.{Packs}
use Rattle.arrow_buffers.proofs.made.packed_bits.Given as goal

abbrev pub invariant-loop-i : goal.invariant-loop-i
invariant-loop-i l = Packs l.bits l.bytes.items l.byte l.place l.i
