-- The items that are marked are those at the numbers of the marks.
use Rattle.std.proofs.Common.{◌≡◌, ◌∙◌, sym, refl, ap, arith, ℕ, suc, ◌≤◌, List, [], ◌∷◌, ◌++◌, Bool, true, false, slice_get}
use Rattle.array_filter.specs.Rows.{AreBelow, Rise, if_any, marked_from, taken}
use Rattle.array_filter.specs.Laws.{MarkedAreTaken}

-- numbers counted from one more are of the items behind the first
one_on : {A : Type 0} (i : ℕ) (marks : List Bool) (x : A) (xs : List A) → taken (marked_from (suc i) marks) (x ∷ xs) ≡ taken (marked_from i marks) xs
one_on i [] x xs = refl
one_on i (true ∷ marks) x xs = ap (λ ys. if_any (slice_get xs i) ++ ys) (one_on (suc i) marks x xs)
one_on i (false ∷ marks) x xs = one_on (suc i) marks x xs

pub marked_are_taken : MarkedAreTaken
marked_are_taken A [] xs h = refl
marked_are_taken A (b ∷ marks) [] h = absurd (omega (arith, h))
marked_are_taken A (true ∷ marks) (x ∷ xs) h = ap (λ ys. x ∷ ys) (marked_are_taken A marks xs (omega (arith, h)) ∙ sym (one_on 0 marks x xs))
marked_are_taken A (false ∷ marks) (x ∷ xs) h = marked_are_taken A marks xs (omega (arith, h)) ∙ sym (one_on 0 marks x xs)

-- numbers that rise are below what they rise to
pub rising_below : (low : ℕ) (rows : List ℕ) (n : ℕ) → Rise low rows n → low ≤ n
rising_below low [] n h = h
rising_below low (row ∷ rows) n h = omega (arith, h.0, rising_below (suc row) rows n h.1)

pub risen_are_below : (low : ℕ) (rows : List ℕ) (n : ℕ) → Rise low rows n → AreBelow n rows
risen_are_below low [] n h = tt
risen_are_below low (row ∷ rows) n h = (omega (arith, rising_below (suc row) rows n h.1), risen_are_below (suc row) rows n h.1)
