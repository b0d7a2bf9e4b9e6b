use Rattle.std.proofs.Common.{◌≡◌, ◌/◌, ◌++◌, length, drop, ap, ◌∙◌, arith}
use Rattle.std.proofs.lemmas.List.{take-append-drop}
use Rattle.arrow_spec.specs.Framing.{packed}
use Rattle.arrow_spec.proofs.PackedBits.{length-packed}
use Rattle.ipc_bodies.proofs.Packed.{whole_count}
use Rattle.ipc_bodies.proofs.Encoded.{text_stopped, then_text, text_as}
use Rattle.ipc_bodies.proofs.bits.put_bits.Goals as goal

pub put_last-requires-clause-last : goal.put_last-requires-clause-last
put_last-requires-clause-last g c = omega (arith, length-packed c.args.bits.now, ap length c.requires.stand, whole_count c.args.bits.now)

pub returns-in_err-put_bytes_as-clause-puts : goal.returns-in_err-put_bytes_as-clause-puts
returns-in_err-put_bytes_as-clause-puts g c =
    let bytes = c.args.bytes.now in
    let all = packed c.args.bits.now in
    let k = length c.args.bits.now / 8 in
    let whole : bytes ++ drop k all ≡ all = ap (λ l. l ++ drop k all) c.requires.stand ∙ take-append-drop k all in
    text_as c.args.encoding _ c.from_residual.result (bytes ++ drop k all) all whole (text_stopped c.args.encoding _ c.in_err-put_bytes_as.field-0.0 c.from_residual.result bytes (drop k all) c.from_residual.ensures.1 c.in_err-put_bytes_as.ensures.puts)

pub returns-clause-puts : goal.returns-clause-puts
returns-clause-puts g c =
    let bytes = c.args.bytes.now in
    let all = packed c.args.bits.now in
    let k = length c.args.bits.now / 8 in
    let n : length bytes ≡ k = ap length c.requires.stand ∙ whole_count c.args.bits.now in
    let whole : bytes ++ drop (length bytes) all ≡ all = ap (λ m. bytes ++ drop m all) n ∙ ap (λ l. l ++ drop k all) c.requires.stand ∙ take-append-drop k all in
    text_as c.args.encoding _ c.put_last.result (bytes ++ drop (length bytes) all) all whole (then_text c.args.encoding _ _ _ _ _ _ _ _ _ c.put_last.result bytes (drop (length bytes) all) c.in_ok-put_bytes_as.ensures.puts c.put_last.ensures.puts)
