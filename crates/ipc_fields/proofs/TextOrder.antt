-- Texts in order, and maps whose keys ascend.
use Rattle.std.proofs.Common.{◌≡◌, ℕ, List, [], ◌∷◌, Bool, true, false, cond, Ordering, Less, Equal, Greater, String, Global, string_bytes, string_cmp, nat_cmp, refl, sym, ◌∙◌, ap}
use Rattle.std.specs.Prelude.{nat_eq, nat_lt, ◌||◌, ◌&&◌, map}
use Rattle.std.specs.List.{AllByRecursion}
use Rattle.std.specs.List.Sorted.{IsStrictlySortedBy}
use Rattle.std.specs.Ordering.{is_lt, ordering_then}
use Rattle.std.specs.Cmp.Lexicographic.{slice_cmp}
use Rattle.arrow_spec.specs.Schema.{stands_before}
use Rattle.arrow_spec.proofs.PairMaps.{AllBefore, IsSorted}
use Rattle.arrow_types.specs.KindOf.{texts_of}

first_bytes : (p q s : Bool) (r : Ordering) → is_lt r ≡ s → is_lt (ordering_then (cond p Less (cond q Equal Greater)) r) ≡ (p || (q && s))
first_bytes true q s r h = refl
first_bytes false true s r h = h
first_bytes false false s r h = refl

pub before_same : (xs ys : List ℕ) → is_lt (slice_cmp nat_cmp xs ys) ≡ stands_before xs ys
before_same [] [] = refl
before_same [] (y ∷ ys) = refl
before_same (x ∷ xs) [] = refl
before_same (x ∷ xs) (y ∷ ys) = first_bytes (nat_lt x y) (nat_eq x y) (stands_before xs ys) (slice_cmp nat_cmp xs ys) (before_same xs ys)

before : (x y : String Global) → string_cmp x y ≡ Less → stands_before (string_bytes x) (string_bytes y) ≡ true
before x y h = sym (before_same (string_bytes x) (string_bytes y)) ∙ ap is_lt h

all_before : (x : String Global) (es : List (String Global × String Global)) → AllByRecursion (λ y. string_cmp x y ≡ Less) (map (λ e. e.0) es) → AllBefore (string_bytes x) (texts_of es)
all_before x [] h = tt
all_before x (e ∷ es) h = (before x e.0 h.0, all_before x es h.1)

-- a map's texts ascend as its keys do
pub sorted_texts : (es : List (String Global × String Global)) → IsStrictlySortedBy string_cmp (map (λ e. e.0) es) → IsSorted (texts_of es)
unfolding IsStrictlySortedBy
sorted_texts [] h = tt
sorted_texts (e ∷ es) h = (all_before e.0 es h.0, sorted_texts es h.1)
