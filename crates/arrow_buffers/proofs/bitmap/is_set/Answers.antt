use Rattle.std.proofs.Common.{refl}
use Rattle.std.proofs.lemmas.Nat.Bits.{shr_and_one}
use Rattle.arrow_buffers.proofs.bitmap.is_set.Goals as goal

pub returns : goal.returns
returns c = rw shr_and_one refl
