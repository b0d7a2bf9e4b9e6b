-- What a look-up in a list says.
use Rattle.std.proofs.Common.{◌≡◌, ℕ, zero, suc, ◌<◌, List, [], ◌∷◌, Some, length, get_or, refl, arith, slice_get}

-- what is found at a place stands there
pub record Found {A : Type 0} (xs : List A) (i : ℕ) (x : A) : Type 0 where
  pub below : i < length xs
  pub at : (d : A) → get_or xs i d ≡ x

pub found : {A : Type 0} (xs : List A) (i : ℕ) (x : A) → slice_get xs i ≡ Some x → Found xs i x
found [] i x e = cc
found (y ∷ xs) zero x e = let f : y ≡ x = cc in record { below = omega arith; at = λ d. f }
found (y ∷ xs) (suc i) x e = let r = found xs i x e in record { below = omega (arith, r.below); at = r.at }

-- what stands at a place is found there
pub get_there : {A : Type 0} (xs : List A) (i : ℕ) (d : A) → i < length xs → slice_get xs i ≡ Some (get_or xs i d)
get_there [] i d h = absurd (omega arith)
get_there (x ∷ xs) zero d h = refl
get_there (x ∷ xs) (suc i) d h = get_there xs i d (omega arith)
