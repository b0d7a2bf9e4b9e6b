use Rattle.std.proofs.Common.{◌≡◌, rules, ◌++◌, ◌∷◌, [], ◌∙◌, ap}
use Rattle.arrow_arrays.specs.PieceViews.{share}
use Rattle.arrow_arrays.proofs.PieceLaws.{shares-more}
use Rattle.arrow_arrays.proofs.pieces.shares_of.Goals as goal

pub loop-number-preserved : goal.loop-number-preserved
loop-number-preserved c =
    let last : c.sliced.result ≡ share c.args.bytes.now c.loop-number.number = search rules in
    c.in_ok-push.ensures.items ∙ ap (λ xs. xs ++ c.sliced.result ∷ []) c.loop-number.invariant ∙ shares-more c.args.bytes.now c.loop-number.number c.sliced.result last
