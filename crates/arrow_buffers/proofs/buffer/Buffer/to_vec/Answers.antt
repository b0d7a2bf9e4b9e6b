use Rattle.std.proofs.Common.{◌∷◌, ◌++◌, [], take, sym, ap, ◌∙◌}
use Rattle.std.proofs.lemmas.List.{take_more}
use Rattle.arrow_buffers.proofs.Counts.{found}
use Rattle.arrow_buffers.proofs.buffer.Buffer.to_vec.Goals as goal

pub loop-i-preserved : goal.loop-i-preserved
loop-i-preserved g c =
    let xs = c.args.self.now in
    let i = c.loop-i.i in
    let x = c.get.result in
    let f = found xs i x c.get.ensures in
    c.in_ok-push.ensures.items ∙ ap (λ ys. ys ++ x ∷ []) c.loop-i.invariant ∙ sym (take_more xs i x f.below ∙ ap (λ y. take i xs ++ y ∷ []) (f.at x))
