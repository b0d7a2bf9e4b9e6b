use Rattle.std.proofs.Common.{◌++◌, length, map, take, sym, ap, ◌∙◌, append_assoc}
use Rattle.arrow_spec.specs.Framing.{body_bytes}
use Rattle.arrow_spec.specs.Sent.{body_of}
use Rattle.ipc_bodies.proofs.Bodies.{padded_at, body_more, body_next}
use Rattle.ipc_bodies.proofs.body.append_body.Goals as goal

pub loop-buffer-preserved : goal.loop-buffer-preserved
loop-buffer-preserved c =
    let xs = c.args.buffers.now in
    let i = c.loop-buffer.buffer-index in
    let x = c.buffer-item.result in
    let old = c.args.out.now.items in
    let out = c.loop-buffer.out.items in
    let at = length old in
    let e = body_of at (map length (take i xs)) in
    c.in_ok-append_padded.ensures
    ∙ ap (λ n. out ++ padded_at n x) (body_next xs i old out c.loop-buffer.invariant)
    ∙ ap (λ l. l ++ padded_at e x) c.loop-buffer.invariant
    ∙ append_assoc old (body_bytes at (take i xs)) (padded_at e x)
    ∙ ap (λ l. old ++ l) (sym (body_more at xs i x c.loop-buffer-test.true c.buffer-item.is))
