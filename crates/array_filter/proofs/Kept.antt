-- What is kept of an array by the calls that keep rows of it.
use Rattle.std.proofs.Common.{◌≡◌, ◌∙◌, sym, ap, List, ℕ, Bool, Result, Ok, Err, IfOk, length, None}
use Rattle.arrow_arrays.specs.Parts.{Parts, cells_in, fault_in, kind_in, rows_in}
use Rattle.array_filter.specs.Rows.{AreBelow, marked, marked_from, taken}
use Rattle.array_filter.specs.Taken.{rows_taken}
use Rattle.array_filter.proofs.Marked.{marked_are_taken}
use Rattle.array_filter.proofs.TreeTaken.{rows_are_taken}
use Rattle.arrow_arrays.proofs.Sliced.{length-cells}

pub if_kept : {A E : Type 0} (r : Result A E) (P Q : A → Type 0) → ((a : A) → P a → Q a) → IfOk r P → IfOk r Q
if_kept (Ok a) P Q f h = f a h
if_kept (Err e) P Q f h = tt

-- parts that are rows of others
pub kept_cells : (rows : List ℕ) (p q : Parts) → fault_in p ≡ None → AreBelow (rows_in p) rows → q ≡ rows_taken rows p → cells_in q ≡ taken rows (cells_in p)
kept_cells rows p q e a h = ap cells_in h ∙ (rows_are_taken rows p e a).same_cells

pub kept_kind : (rows : List ℕ) (p q : Parts) → fault_in p ≡ None → AreBelow (rows_in p) rows → q ≡ rows_taken rows p → kind_in q ≡ kind_in p
kept_kind rows p q e a h = ap kind_in h ∙ (rows_are_taken rows p e a).same_kind

pub marked_cells : (marks : List Bool) (p q : Parts) → fault_in p ≡ None → AreBelow (rows_in p) (marked_from 0 marks) → length marks ≡ rows_in p → q ≡ rows_taken (marked_from 0 marks) p → cells_in q ≡ marked marks (cells_in p)
marked_cells marks p q e a l h = kept_cells (marked_from 0 marks) p q e a h ∙ sym (marked_are_taken _ marks (cells_in p) (l ∙ sym (length-cells p e)))
