use Rattle.std.proofs.Common.{◌≡◌, ◌+◌, ◌∷◌, ◌++◌, [], take, ap, sym, ◌∙◌, arith}
use Rattle.std.proofs.lemmas.List.{take_more}
use Rattle.arrow_arrays.specs.Parts.{fault_each}
use Rattle.arrow_arrays.specs.PartsOf.{forest_of}
use Rattle.arrow_arrays.proofs.Forests.{one_more_sound}
use Rattle.arrow_arrays.proofs.union.know_sound.Goals as goal

pub loop-field-preserved : goal.loop-field-preserved
loop-field-preserved c =
    let x = c.field-item.result in
    let i = c.loop-field.field-index in
    let xs = c.args.fields.now in
    let t : take (i + 1) xs ≡ take i xs ++ x ∷ [] = take_more xs i x (omega arith) ∙ ap (λ y. take i xs ++ y ∷ []) (sym c.field-item.is) in
    ap (λ ys. fault_each (forest_of ys)) t ∙ one_more_sound (take i xs) x c.loop-field.invariant c.len-rows.ensures.sound
