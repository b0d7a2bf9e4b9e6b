-- Ids that are the same.
use Rattle.std.proofs.Common.{◌≡◌, List, [], ◌∷◌, true, ℤ, pos, negsuc, refl, ap, arith}
use Rattle.std.proofs.lemmas.Bool.{and_parts, eqb-true}
use Rattle.arrow_spec.specs.Kinds.{same, are_same_ids}

pub id_self : (x : ℤ) → same x x ≡ true
id_self (pos n) = grind arith
id_self (negsuc n) = grind arith

pub id_true : (x y : ℤ) → same x y ≡ true → x ≡ y
id_true (pos a) (pos b) h = ap pos (eqb-true a b h)
id_true (negsuc a) (negsuc b) h = ap negsuc (eqb-true a b h)
id_true (pos a) (negsuc b) h = cc
id_true (negsuc a) (pos b) h = cc

pub ids_self : (xs : List ℤ) → are_same_ids xs xs ≡ true
ids_self [] = refl
ids_self (x ∷ xs) = rw (id_self x, ids_self xs) refl

pub ids_true : (xs ys : List ℤ) → are_same_ids xs ys ≡ true → xs ≡ ys
ids_true [] [] h = refl
ids_true [] (y ∷ ys) h = cc
ids_true (x ∷ xs) [] h = cc
ids_true (x ∷ xs) (y ∷ ys) h =
    let p = and_parts (same x y) (are_same_ids xs ys) h in
    let first : x ≡ y = id_true x y p.0 in
    let rest : xs ≡ ys = ids_true xs ys p.1 in
    rw (first, rest) refl
