use Rattle.std.proofs.Common.{◌<◌, ◌∷◌, [], length, drop, arith}
use Rattle.arrow_spec.specs.Framing.{packed}
use Rattle.ipc_bodies.proofs.Lists.{last_item}
use Rattle.ipc_bodies.proofs.Encoded.{text_as, no_text_left}
use Rattle.ipc_bodies.proofs.bits.put_last.Goals as goal

pub returns-then-packed_size-at-clause-puts : goal.returns-then-packed_size-at-clause-puts
returns-then-packed_size-at-clause-puts g c = no_text_left c.args.encoding _ _ _ (packed c.args.bits.now) c.args.at (omega (arith, c.if-packed_size-at.true, c.packed_size.ensures))

pub returns-clause-puts : goal.returns-clause-puts
returns-clause-puts g c =
    let all = packed c.args.bits.now in
    let below : c.args.at < length all = omega (arith, c.if-packed_size-at.false, c.packed_size.ensures) in
    text_as c.args.encoding _ c.put_bytes_as.result (c.packed_byte.result ∷ []) (drop c.args.at all) (last_item all c.args.at c.packed_byte.result below c.requires.last c.packed_byte.ensures) c.put_bytes_as.ensures.puts
