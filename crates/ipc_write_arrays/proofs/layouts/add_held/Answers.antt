use Rattle.std.proofs.Common.{◌≡◌, ◌+◌, ◌∷◌, ◌++◌, [], take, sym, ap, ◌∙◌, append_assoc}
use Rattle.std.proofs.lemmas.List.{take_more}
use Rattle.ipc_bodies.proofs.Adding.{appends_fail, kept_behind, kept_then}
use Rattle.ipc_write_arrays.proofs.layouts.add_held.Goals as goal

pub returns-in_err-add_bytes : goal.returns-in_err-add_bytes
returns-in_err-add_bytes c =
    appends_fail c.from_residual.result _ _ _ c.from_residual.ensures.0 (kept_then c.args.buffers.now.items c.loop-buffer.buffers.items c.add_bytes.new.buffers.items (kept_behind _ _ _ c.loop-buffer.invariant) c.in_err-add_bytes.ensures)

pub loop-buffer-preserved : goal.loop-buffer-preserved
loop-buffer-preserved c =
    let xs = c.args.held.now in
    let i = c.loop-buffer.buffer-index in
    let x = c.buffer-item.result in
    let old = c.args.buffers.now.items in
    let more : take (i + 1) xs ≡ take i xs ++ x ∷ [] = take_more xs i x c.loop-buffer-test.true ∙ ap (λ y. take i xs ++ y ∷ []) (sym c.buffer-item.is) in
    c.in_ok-add_bytes.ensures ∙ ap (λ b. b ++ x ∷ []) c.loop-buffer.invariant ∙ append_assoc old (take i xs) (x ∷ []) ∙ ap (λ b. old ++ b) (sym more)
