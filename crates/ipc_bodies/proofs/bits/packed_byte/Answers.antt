use Rattle.std.proofs.Common.{◌*◌, ◌-◌, min, ap, ◌∙◌, arith}
use Rattle.ipc_bodies.proofs.Packed.{byte_within, packed_at}
use Rattle.ipc_bodies.proofs.bits.packed_byte.Goals as goal

pub overflow_mul-first : goal.overflow_mul-first
overflow_mul-first c = omega (arith, byte_within c.args.bits.now c.args.i c.requires, c.len-all.ensures)

pub overflow_sub-all : goal.overflow_sub-all
overflow_sub-all c = omega (arith, byte_within c.args.bits.now c.args.i c.requires, c.len-all.ensures)

pub byte_from-requires-clause-within : goal.byte_from-requires-clause-within
byte_from-requires-clause-within c = omega (arith, byte_within c.args.bits.now c.args.i c.requires, c.len-all.ensures, c.min.ensures)

pub byte_from-requires-clause-small : goal.byte_from-requires-clause-small
byte_from-requires-clause-small c = omega (arith, byte_within c.args.bits.now c.args.i c.requires, c.len-all.ensures, c.min.ensures)

pub returns : goal.returns
returns c =
    c.byte_from.ensures ∙ packed_at c.args.bits.now c.args.i c.min.result c.requires (c.min.ensures ∙ ap (λ k. min (k - 8 * c.args.i) 8) c.len-all.ensures)
