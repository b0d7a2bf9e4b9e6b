-- The marks of a column's rows, one after another.
use Rattle.std.proofs.Common.{◌≡◌, ◌∙◌, refl, ap, ℕ, zero, suc, ◌+◌, ◌<◌, ◌≤◌, List, [], ◌∷◌, ◌++◌, length, take, slice_get, add-one, arith}
use Rattle.arrow_spec.specs.Arrays.{cell_or_null}
use Rattle.arrow_spec.specs.Cells.{Cell}
use Rattle.row_filters.specs.Filters.{marks_of, meets}
use Rattle.filter_types.specs.declared.filter.Filter.{Filter}

one_mark : (f : Filter) (xs : List Cell) (row : ℕ) → row < length xs → take (suc row) (marks_of f xs) ≡ take row (marks_of f xs) ++ meets f (cell_or_null (slice_get xs row)) ∷ []
one_mark f [] row h = absurd (omega (arith, h))
one_mark f (x ∷ xs) zero h = refl
one_mark f (x ∷ xs) (suc row) h = ap (λ ms. meets f x ∷ ms) (one_mark f xs row (omega (arith, h)))

-- one mark more
pub next_mark : (f : Filter) (xs : List Cell) (row : ℕ) → row < length xs → take (row + 1) (marks_of f xs) ≡ take row (marks_of f xs) ++ meets f (cell_or_null (slice_get xs row)) ∷ []
next_mark f xs row h = ap (λ n. take n (marks_of f xs)) (add-one row) ∙ one_mark f xs row h

-- so many are all
pub all_marks : (f : Filter) (xs : List Cell) (n : ℕ) → length xs ≤ n → take n (marks_of f xs) ≡ marks_of f xs
all_marks f [] zero h = refl
all_marks f [] (suc n) h = refl
all_marks f (x ∷ xs) zero h = absurd (omega (arith, h))
all_marks f (x ∷ xs) (suc n) h = ap (λ ms. meets f x ∷ ms) (all_marks f xs n (omega (arith, h)))
