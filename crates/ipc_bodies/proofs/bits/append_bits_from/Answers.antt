use Rattle.std.proofs.Common.{◌<◌, ◌-◌, ◌∷◌, ◌++◌, [], length, ap, ◌∙◌, arith, append_assoc}
use Rattle.arrow_spec.specs.Framing.{packed}
use Rattle.arrow_buffers.specs.Rows.{part}
use Rattle.ipc_bodies.proofs.Lists.{part_next}
use Rattle.ipc_bodies.proofs.bits.append_bits_from.Goals as goal

pub loop-i-preserved : goal.loop-i-preserved
loop-i-preserved c =
    let bytes = packed c.args.bits.now in
    let old = c.args.out.now.items in
    let at = c.args.at in
    let i = c.loop-i.i in
    let x = c.packed_byte.result in
    let below : i < length bytes = omega (arith, c.loop-i-test.true, c.packed_size-i-end.ensures) in
    c.in_ok-push.ensures.items ∙ ap (λ l. l ++ x ∷ []) c.loop-i.invariant ∙ append_assoc old (part at (i - at) bytes) (x ∷ []) ∙ ap (λ l. old ++ l) (part_next bytes at i x c.loop-i.auto.i below c.packed_byte.ensures)
