-- Children in a vector, and their rows.
use Rattle.std.proofs.Common.{◌≡◌, ℕ, zero, suc, ◌<◌, List, [], ◌∷◌, length, get_or, Some, refl, ap, sym, arith}
use Rattle.view_types.specs.Views.{View, Views, none, also, views, child_at, count_of, rows_at, rows_each, rows_of}

pub count_is : (xs : List View) → count_of (views xs) ≡ length xs
count_is [] = refl
count_is (x ∷ xs) = ap suc (count_is xs)

pub child_is : (xs : List View) (i : ℕ) (v : View) → i < count_of (views xs) → v ≡ get_or xs i v → child_at (views xs) i ≡ Some v
child_is [] i v h e = absurd (omega (arith, h))
child_is (x ∷ xs) zero v h e = ap Some (sym e)
child_is (x ∷ xs) (suc i) v h e = child_is xs i v (omega (arith, h)) e

-- a child that has rows is there
pub rows_there : (cs : Views) (i : ℕ) → 0 < rows_at cs i → i < count_of cs
rows_there none i h = absurd (omega (arith, h))
rows_there (also v vs) zero h = omega arith
rows_there (also v vs) (suc i) h = omega (arith, rows_there vs i h)

pub rows_are : (cs : Views) (i : ℕ) (v : View) → child_at cs i ≡ Some v → rows_at cs i ≡ rows_of v
rows_are none i v h = cc
rows_are (also w ws) zero v h = let e : w ≡ v = cc in ap rows_of e
rows_are (also w ws) (suc i) v h = rows_are ws i v h

-- the rows of a child in a vector
pub rows_in_vector : (xs : List View) (i : ℕ) (v : View) → i < length xs → v ≡ get_or xs i v → rows_at (views xs) i ≡ rows_of v
rows_in_vector [] i v h e = absurd (omega (arith, h))
rows_in_vector (x ∷ xs) zero v h e = ap rows_of (sym e)
rows_in_vector (x ∷ xs) (suc i) v h e = rows_in_vector xs i v (omega (arith, h)) e

pub length-rows_each : (cs : Views) → length (rows_each cs) ≡ count_of cs
length-rows_each none = refl
length-rows_each (also v vs) = ap suc (length-rows_each vs)
