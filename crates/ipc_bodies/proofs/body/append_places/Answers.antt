use Rattle.std.proofs.Common.{◌≡◌, ◌+◌, ◌∷◌, ◌++◌, [], length, map, take, sym, ap, ◌∙◌, arith, append_assoc, pos}
use Rattle.arrow_spec.specs.declared.message.IpcBuffer.{IpcBuffer}
use Rattle.arrow_spec.specs.Layout.{up_to}
use Rattle.arrow_spec.specs.Sent.{placed, body_of}
use Rattle.ipc_bodies.proofs.Adding.{appends_fail, kept_behind, kept_then}
use Rattle.ipc_bodies.proofs.Bodies.{near_end, next_end, placed_more, body_of_more}
use Rattle.ipc_bodies.proofs.body.append_places.Goals as goal

pub overflow_add-end : goal.overflow_add-end
overflow_add-end c = omega (arith, near_end c.args.buffers.now c.loop-buffer.buffer-index c.loop-buffer.at _ c.buffer-item.result c.buffer-item.is c.loop-buffer-test.true c.loop-buffer.invariant.end, c.len-length.ensures, c.requires)

pub push_place-requires-clause-at : goal.push_place-requires-clause-at
push_place-requires-clause-at c = omega (arith, near_end c.args.buffers.now c.loop-buffer.buffer-index c.loop-buffer.at _ c.buffer-item.result c.buffer-item.is c.loop-buffer-test.true c.loop-buffer.invariant.end, c.len-length.ensures, c.requires)

pub push_place-requires-clause-length : goal.push_place-requires-clause-length
push_place-requires-clause-length c = omega (arith, near_end c.args.buffers.now c.loop-buffer.buffer-index c.loop-buffer.at _ c.buffer-item.result c.buffer-item.is c.loop-buffer-test.true c.loop-buffer.invariant.end, c.len-length.ensures, c.requires)

pub overflow_add-at : goal.overflow_add-at
overflow_add-at c = omega (arith, near_end c.args.buffers.now c.loop-buffer.buffer-index c.loop-buffer.at _ c.buffer-item.result c.buffer-item.is c.loop-buffer-test.true c.loop-buffer.invariant.end, c.len-length.ensures, c.padding.ensures.gap, c.requires)

pub returns-in_err-push_place : goal.returns-in_err-push_place
returns-in_err-push_place c =
    appends_fail c.from_residual.result _ _ _ c.from_residual.ensures.0 (kept_then c.args.out.now.items c.loop-buffer.out.items c.push_place.new.out.items (kept_behind _ _ _ c.loop-buffer.invariant.places) c.in_err-push_place.ensures)

pub loop-buffer-preserved : goal.loop-buffer-preserved
loop-buffer-preserved c =
    let xs = c.args.buffers.now in
    let i = c.loop-buffer.buffer-index in
    let x = c.buffer-item.result in
    let l = c.loop-buffer in
    let old = c.args.out.now.items in
    let n = c.len-length.result in
    let from = c.args.at in
    let before = placed from (map length (take i xs)) in
    let one : IpcBuffer = record { offset = pos l.at; length = pos n } in
    let same : one ≡ record { offset = pos (body_of from (map length (take i xs))); length = pos (length x) } =
    ap (λ k. record { offset = pos k; length = pos n }) l.invariant.place ∙ ap (λ k. record { offset = pos (body_of from (map length (take i xs))); length = pos k }) c.len-length.ensures in
    let end : l.at + n + c.padding.result ≡ up_to 64 (l.at + n) = omega (arith, c.padding.ensures.gap) in
    let next : l.at + n + c.padding.result ≡ up_to 64 (l.at + length x) = end ∙ ap (λ k. up_to 64 (l.at + k)) c.len-length.ensures in
    record {
      places = c.in_ok-push_place.ensures ∙ ap (λ b. b ++ one ∷ []) l.invariant.places ∙ append_assoc old before (one ∷ []) ∙ ap (λ b. old ++ (before ++ b ∷ [])) same ∙ ap (λ b. old ++ b) (sym (placed_more from xs i x c.loop-buffer-test.true c.buffer-item.is));
      place = next ∙ ap (λ k. up_to 64 (k + length x)) l.invariant.place ∙ sym (body_of_more from xs i x c.loop-buffer-test.true c.buffer-item.is);
      end = next_end xs i l.at (l.at + n + c.padding.result) _ x c.buffer-item.is c.loop-buffer-test.true next l.invariant.end;
    }
