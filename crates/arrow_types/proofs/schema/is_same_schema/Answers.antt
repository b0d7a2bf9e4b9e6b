use Rattle.std.proofs.Common.{◌≡◌, ℕ, zero, suc, List, [], ◌∷◌, take, slice_get, refl, sym, ◌∙◌, add-one}
use Rattle.arrow_types.proofs.schema.is_same_schema.Goals as goal

one_more : {A : Type 0} (xs ys : List A) (i : ℕ) → take i xs ≡ take i ys → slice_get xs i ≡ slice_get ys i → take (suc i) xs ≡ take (suc i) ys
one_more [] [] i e h = refl
one_more [] (y ∷ ys) zero e h = cc
one_more [] (y ∷ ys) (suc i) e h = cc
one_more (x ∷ xs) [] zero e h = cc
one_more (x ∷ xs) [] (suc i) e h = cc
one_more (x ∷ xs) (y ∷ ys) zero e h = let k : x ≡ y = cc in cc
one_more (x ∷ xs) (y ∷ ys) (suc i) e h =
    let k : x ≡ y = cc in
    let t : take i xs ≡ take i ys = cc in
    let r : take (suc i) xs ≡ take (suc i) ys = one_more xs ys i t h in
    cc

pub loop-i-preserved : goal.loop-i-preserved
loop-i-preserved c = rw add-one (one_more c.args.a.now c.args.b.now c.loop-i.i c.loop-i.invariant (sym c.get_at_index.ensures ∙ c.if-not-is_same_entry.ensures.0 refl ∙ c.get_at_index-in-loop-i.ensures))
