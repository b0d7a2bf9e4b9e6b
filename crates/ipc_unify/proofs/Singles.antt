-- Lists of one size have one child, array by array.
use Rattle.std.proofs.Common.{◌≡◌, ◌∙◌, sym, ap, subst, ℕ, ◌+◌, ◌<◌, List, [], ◌∷◌, ◌++◌, length, take, get_or}
use Rattle.std.proofs.lemmas.List.{take_more}
use Rattle.arrow_arrays.specs.PartsOf.{forest_of, parts_of}
use Rattle.arrow_arrays.specs.declared.array.Array.{Array}
use Rattle.laws_unify.specs.Single.{AreSingle, IsSingle}

one_more : (xs : List Array) (x : Array) → AreSingle (forest_of xs) → IsSingle (parts_of x) → AreSingle (forest_of (xs ++ x ∷ []))
one_more [] x a s = (s, tt)
one_more (y ∷ xs) x a s = (a.0, one_more xs x a.1 s)

pub next_single : (xs : List Array) (i : ℕ) (x : Array) → i < length xs → x ≡ get_or xs i x → AreSingle (forest_of (take i xs)) → IsSingle (parts_of x) → AreSingle (forest_of (take (i + 1) xs))
next_single xs i x h e a s = subst (λ ys. AreSingle (forest_of ys)) (sym (take_more xs i x h ∙ ap (λ y. take i xs ++ y ∷ []) (sym e))) (one_more (take i xs) x a s)
