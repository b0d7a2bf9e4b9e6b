use Rattle.std.proofs.Common.{ap, ◌∙◌, arith}
use Rattle.std.specs.Int.{div_ceil}
use Rattle.arrow_spec.proofs.PackedBits.{length-packed}
use Rattle.ipc_bodies.proofs.bits.packed_size.Goals as goal

pub returns : goal.returns
returns c = c.div_ceil.ensures ∙ ap (λ n. div_ceil n 8) c.len.ensures ∙ omega (arith, length-packed c.args.bits.now)
