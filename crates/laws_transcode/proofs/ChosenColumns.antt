-- Columns by their numbers: the field of one that is asked for, what was made of it, and what is to be written of it.
use Rattle.std.proofs.Common.{◌≡◌, ◌⊎◌, inl, inr, ℕ, zero, suc, ◌+◌, List, [], ◌∷◌, Bool, true, false, Option, Some, None, Ok, refl, arith, subst}
use Rattle.std.specs.Prelude.{nat_eq, slice_get}
use Rattle.std.proofs.lemmas.Bool.{eq-eqb, eqb-true, or_left, or_right}
use Rattle.arrow_spec.specs.Kinds.{Kind, Fields, Metadata, none, field}
use Rattle.arrow_spec.specs.Cells.{Cell}
use Rattle.arrow_spec.specs.Counts.{RecordBatch, Place, Written, after}
use Rattle.arrow_spec.specs.Arrays.{Dictionaries}
use Rattle.arrow_spec.specs.Faults.{array_faults, column_faults}
use Rattle.arrow_spec.specs.Columns.{chosen_faults, columns_at, is_chosen, stands_in}
use Rattle.arrow_spec.specs.Files.{with_field_at}
use Rattle.arrow_spec.specs.Sent.{columns_written, nothing_written, top_written, written_at}
use Rattle.arrow_spec.proofs.Fewer.{none_second}
use Rattle.arrow_spec.proofs.Projection.{place-ok}
use Rattle.arrow_spec.proofs.ReadPairs.{through}

-- ── numbers ──

pub stands_first : (c : ℕ) (cs : List ℕ) → stands_in (c ∷ cs) c ≡ true
stands_first c cs = or_left (nat_eq c c) (stands_in cs c) (eq-eqb c c refl)

pub stands_later : (x c : ℕ) (cs : List ℕ) → stands_in cs c ≡ true → stands_in (x ∷ cs) c ≡ true
stands_later x c cs h = or_right (nat_eq x c) (stands_in cs c) h

pub stands_either : (x c : ℕ) (cs : List ℕ) → stands_in (x ∷ cs) c ≡ true → (x ≡ c) ⊎ (stands_in cs c ≡ true)
stands_either x c cs h = by_first (nat_eq x c) refl
  where
    by_first : (b : Bool) → nat_eq x c ≡ b → (x ≡ c) ⊎ (stands_in cs c ≡ true)
    by_first true e = inl (eqb-true x c e)
    by_first false e = inr (rw e at h)

-- the same columns are read where the same ones are asked for
pub same_columns : (m : RecordBatch) (d : Dictionaries) (x y : Option (List ℕ)) (fs : Fields) (c : ℕ) (p : Place) (rows few : ℕ) → ((i : ℕ) → is_chosen x i ≡ is_chosen y i) → columns_at m d x fs c p rows few ≡ columns_at m d y fs c p rows few
unfolding columns_at
same_columns m d x y none c p rows few same = refl
same_columns m d x y (field name nullable metadata k others) c p rows few same = rw (same c, same_columns m d x y others (suc c) (after m k p) rows few same) refl

-- ── a column by its number ──

-- what is made of each column's kind at its place
abbrev pub made_of : {A : Type 0} → (Kind → Place → A) → RecordBatch → Fields → Place → List A
made_of make m none p = []
made_of make m (field name nullable metadata k others) p = make k p ∷ made_of make m others (after m k p)

-- what is put before other fields, what was made and what is to be written are those of one column without faults, or there is none
pub data ColumnAt {A : Type 0} (m : RecordBatch) (d : Dictionaries) (make : Kind → Place → A) (few : ℕ) (with_it : Fields → Fields) (made : Option A) (w : Written) : Type 0 where
  there : (name : List ℕ) (nullable : Bool) (metadata : Metadata) (k : Kind) (p : Place) → ((others : Fields) → with_it others ≡ field name nullable metadata k others) → made ≡ Some (make k p) → w ≡ top_written m k p few
      → array_faults m d k p few ≡ [] → ColumnAt m d make few with_it made w
  not_there : made ≡ None → w ≡ nothing_written → ColumnAt m d make few with_it made w

pub column_at : {A : Type 0} (m : RecordBatch) (d : Dictionaries) (make : Kind → Place → A) (asked : Option (List ℕ)) (fs : Fields) (c : ℕ) (p : Place) (rows few : ℕ) (cells : List (List Cell)) (i j : ℕ) → columns_at m d asked fs c p rows few ≡ Ok cells → c + i ≡ j → is_chosen asked j ≡ true
    → ColumnAt m d make few (λ others. with_field_at fs i others) (slice_get (made_of make m fs p) i) (written_at (columns_written m asked fs c p few) i)
unfolding columns_at column_faults
column_at m d make asked none c p rows few cells i j h at is = not_there refl refl
column_at m d make asked (field name nullable metadata k others) c p rows few cells zero j h at is =
    let same : j ≡ c = omega (arith, at) in
    let here : is_chosen asked c ≡ true = rw same at is in
    through _ _ cells h λ u fits h1.
    let fine : chosen_faults true m d k p rows few ≡ [] = subst (λ b. chosen_faults b m d k p rows few ≡ []) here (place-ok _ fits) in
    there name nullable metadata k p (λ fs. refl) refl refl (none_second _ _ fine)
column_at m d make asked (field name nullable metadata k others) c p rows few cells (suc i) j h at is =
    through _ _ cells h λ u fits h1. through _ _ cells h1 λ rest rest_are h2. column_at m d make asked others (suc c) (after m k p) rows few rest i j rest_are (omega (arith, at)) is
