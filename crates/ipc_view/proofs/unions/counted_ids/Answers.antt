use Rattle.std.proofs.Common.{◌++◌, [], ◌∷◌, sym, ap, to_z, ◌∙◌, arith}
use Rattle.std.specs.Int.{w32}
use Rattle.std.proofs.lemmas.Int.{to_z_pos}
use Rattle.arrow_spec.specs.Schema.{counted_ids}
use Rattle.ipc_view.proofs.UnionKinds.{counted_more}
use Rattle.ipc_view.proofs.unions.counted_ids.Goals as goal

pub loop-i-preserved : goal.loop-i-preserved
loop-i-preserved c =
    let i = c.loop-i.i in
    c.in_ok-push.ensures.items ∙ ap (λ xs. xs ++ to_z w32 i ∷ []) c.loop-i.invariant ∙ ap (λ x. counted_ids 0 i ++ x ∷ []) (to_z_pos w32 i (omega (arith, c.requires, c.loop-i-test.true))) ∙ sym (counted_more i)
