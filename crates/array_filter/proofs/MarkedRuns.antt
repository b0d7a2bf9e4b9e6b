-- Marked rows as runs, from a row on.
use Rattle.std.proofs.Common.{◌≡◌, ◌∙◌, sym, ap, arith, ℕ, ◌+◌, ◌<◌, List, [], ◌∷◌, ◌++◌, length, drop, get_or, Bool, true, false, append_assoc, add-one}
use Rattle.std.proofs.lemmas.List.{drop_more}
use Rattle.arrow_spec.specs.Needed.{numbers_from}
use Rattle.array_filter.specs.declared.runs.Run.{Run}
use Rattle.array_filter.specs.Rows.{marked_from}
use Rattle.array_filter.specs.Runs.{rows_in_runs, rows_of}
use Rattle.array_filter.proofs.RunLaws.{numbers-append, rows_more}

-- the marks from one on
from_mark : (marks : List Bool) (at : ℕ) (b : Bool) → at < length marks → get_or marks at false ≡ b → marked_from at (drop at marks) ≡ marked_from at (b ∷ drop (at + 1) marks)
from_mark marks at b h e = ap (marked_from at) (drop_more marks at false h ∙ ap (λ m. m ∷ drop (at + 1) marks) e)

pub set_mark : (marks : List Bool) (at : ℕ) → at < length marks → get_or marks at false ≡ true → marked_from at (drop at marks) ≡ at ∷ marked_from (at + 1) (drop (at + 1) marks)
set_mark marks at h e = from_mark marks at true h e ∙ ap (λ n. at ∷ marked_from n (drop (at + 1) marks)) (sym (add-one at))

pub clear_mark : (marks : List Bool) (at : ℕ) → at < length marks → get_or marks at false ≡ false → marked_from at (drop at marks) ≡ marked_from (at + 1) (drop (at + 1) marks)
clear_mark marks at h e = from_mark marks at false h e ∙ ap (λ n. marked_from n (drop (at + 1) marks)) (sym (add-one at))

-- a run of one row, and of one row more
pub run_begun : (marks : List Bool) (from : ℕ) → from < length marks → get_or marks from false ≡ true → marked_from from (drop from marks) ≡ numbers_from from 1 ++ marked_from (from + 1) (drop (from + 1) marks)
run_begun marks from h e = set_mark marks from h e

pub run_longer : (marks : List Bool) (rows : List ℕ) (from count : ℕ) → rows ≡ numbers_from from count ++ marked_from (from + count) (drop (from + count) marks) → from + count < length marks → get_or marks (from + count) false ≡ true
    → rows ≡ numbers_from from (count + 1) ++ marked_from (from + (count + 1)) (drop (from + (count + 1)) marks)
run_longer marks rows from count is h e =
    let on : (from + count) + 1 ≡ from + (count + 1) = omega arith in
    is ∙ ap (λ ks. numbers_from from count ++ ks) (set_mark marks (from + count) h e)
    ∙ sym (append_assoc (numbers_from from count) ((from + count) ∷ []) (marked_from (from + count + 1) (drop (from + count + 1) marks)))
    ∙ ap (λ ks. ks ++ marked_from (from + count + 1) (drop (from + count + 1) marks)) (sym (numbers-append from count 1))
    ∙ ap (λ n. numbers_from from (count + 1) ++ marked_from n (drop n marks)) on

-- one run more of the rows
pub one_run : (marks : List Bool) (runs all : List Run) (r : Run) (rows : List ℕ) (low : ℕ) → all ≡ runs ++ r ∷ [] → rows ≡ rows_in_runs runs ++ marked_from low (drop low marks)
    → marked_from low (drop low marks) ≡ rows_of r ++ marked_from (r.from + r.count) (drop (r.from + r.count) marks)
    → rows ≡ rows_in_runs all ++ marked_from (r.from + r.count) (drop (r.from + r.count) marks)
one_run marks runs all r rows low a is e =
    let left = marked_from (r.from + r.count) (drop (r.from + r.count) marks) in
    is ∙ ap (λ ks. rows_in_runs runs ++ ks) e ∙ sym (append_assoc (rows_in_runs runs) (rows_of r) left)
    ∙ ap (λ ks. ks ++ left) (sym (ap rows_in_runs a ∙ rows_more runs r))
