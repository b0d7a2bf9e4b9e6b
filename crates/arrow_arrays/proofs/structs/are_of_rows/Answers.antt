use Rattle.std.proofs.Common.{◌≡◌, ◌<◌, ◌+◌, ◌&&◌, ◌∷◌, ◌++◌, [], length, drop, take, true, ap, sym, ◌∙◌, arith, nat_eq}
use Rattle.std.proofs.lemmas.Bool.{eq-eqb}
use Rattle.std.proofs.lemmas.List.{drop_more, take_more}
use Rattle.arrow_arrays.specs.Heads.{are_all}
use Rattle.arrow_arrays.specs.Parts.{rows_in, rows_each, fault_each}
use Rattle.arrow_arrays.specs.PartsOf.{parts_of, forest_of}
use Rattle.arrow_arrays.proofs.Forests.{one_more_sound}
use Rattle.arrow_arrays.proofs.structs.are_of_rows.Goals as goal

pub loop-array-preserved : goal.loop-array-preserved
loop-array-preserved c =
    let x = c.array-item.result in
    let i = c.loop-array.array-index in
    let xs = c.args.values.now in
    let below : i < length xs = omega arith in
    let rest = are_all c.args.rows (rows_each (forest_of (drop (i + 1) xs))) in
    let d : drop i xs ≡ x ∷ drop (i + 1) xs = drop_more xs i x below ∙ ap (λ y. y ∷ drop (i + 1) xs) (sym c.array-item.is) in
    let t : take (i + 1) xs ≡ take i xs ++ x ∷ [] = take_more xs i x below ∙ ap (λ y. take i xs ++ y ∷ []) (sym c.array-item.is) in
    let r : nat_eq (rows_in (parts_of x)) c.args.rows ≡ true = eq-eqb (rows_in (parts_of x)) c.args.rows (sym c.len.ensures.rows ∙ c.if-len-rows.false) in (
      sym (ap (λ ys. are_all c.args.rows (rows_each (forest_of ys))) d ∙ ap (λ b. b && rest) r) ∙ c.loop-array.invariant.0,
      ap (λ ys. fault_each (forest_of ys)) t ∙ one_more_sound (take i xs) x c.loop-array.invariant.1 c.len.ensures.sound,
    )
