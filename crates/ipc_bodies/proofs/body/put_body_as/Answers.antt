use Rattle.std.proofs.Common.{◌+◌, length, map, take, drop, refl, ◌∙◌, arith}
use Rattle.arrow_spec.specs.Framing.{body_bytes}
use Rattle.arrow_spec.specs.Sent.{body_of}
use Rattle.ipc_bodies.proofs.Bodies.{padded, body_rest, body_put}
use Rattle.ipc_bodies.proofs.Encoded.{no_text, text_stops_in}
use Rattle.ipc_bodies.proofs.body.put_body_as.Goals as goal

pub loop-buffer-init : goal.loop-buffer-init
loop-buffer-init g c = record { puts = no_text c.args.encoding _ _ _; references = refl; scratch = refl; longest = omega arith }

pub returns-in_err-put_padded-clause-puts : goal.returns-in_err-put_padded-clause-puts
returns-in_err-put_padded-clause-puts g c =
    let xs = c.args.buffers.now in
    let i = c.loop-buffer.buffer-index in
    let x = c.buffer-item.result in
    let rest = body_bytes (body_of 0 (map length (take (i + 1) xs))) (drop (i + 1) xs) in
    text_stops_in c.args.encoding _ _ _ _ _ _ _ _ _ c.in_err-put_padded.field-0.0 c.from_residual.result (body_bytes 0 (take i xs)) (padded x) rest (body_bytes 0 xs) (body_rest xs i x c.loop-buffer-test.true c.buffer-item.is) c.from_residual.ensures.1 c.loop-buffer.invariant.puts c.in_err-put_padded.ensures.puts

pub loop-buffer-preserved : goal.loop-buffer-preserved
loop-buffer-preserved g c =
    let inv = c.loop-buffer.invariant in
    record {
      puts = body_put c.args.encoding _ _ _ _ _ _ _ _ _ c.args.buffers.now c.loop-buffer.buffer-index c.buffer-item.result c.loop-buffer-test.true c.buffer-item.is inv.puts c.in_ok-put_padded.ensures.puts;
      references = c.put_padded.ensures.same_references ∙ inv.references;
      scratch = c.put_padded.ensures.scratch ∙ inv.scratch;
      longest = omega (arith, inv.longest, inv.scratch, c.put_padded.ensures.longest);
    }
