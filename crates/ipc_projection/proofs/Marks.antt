-- Numbers that rise, as the items at them are counted.
use Rattle.std.proofs.Common.{◌≡◌, ℕ, suc, ◌+◌, ◌-◌, ◌^◌, ◌<◌, ◌≤◌, ◌≢◌, min, List, Option, [], ◌∷◌, length, get_or, true, false, Bool, arith, refl, sym, ap, ◌∙◌, inl, inr, ◌⊎◌}
use Rattle.std.specs.Iterator.{Yields}
use Rattle.std.proofs.lemmas.Bool.{cases_lt}
use Rattle.arrow_spec.specs.Columns.{stands_in}
use Rattle.ipc_read_laws.specs.Projection.{do_rise}
use Rattle.ipc_read_laws.proofs.Rising.{stands_before}
use Rattle.ipc_projection.specs.Selections.{GivesMarked, all_marked, marked, selects}
use Rattle.ipc_projection.specs.declared.iterator.ProjectionResult.{ProjectionResult}
use Rattle.ipc_projection.proofs.Numbers.{first_least, rises_later}

-- none of the numbers that fit rises from one that does not
pub none_past : (n limit : ℕ) (cs : List ℕ) → do_rise n cs ≡ true → ((i : ℕ) → get_or cs i 0 < limit) → limit ≤ n → length cs ≡ 0
none_past n limit [] r fits h = refl
none_past n limit (x ∷ cs) r fits h = let l : x < limit = fits 0 in absurd (omega (arith, first_least n x cs r))

pub none_stands : (cs : List ℕ) (n : ℕ) → length cs ≡ 0 → stands_in cs n ≡ false
none_stands [] n e = refl
none_stands (x ∷ cs) n e = absurd (omega (arith, e))

-- a number that is not the first is not among them
pub not_first : (n x : ℕ) (cs : List ℕ) → do_rise n (x ∷ cs) ≡ true → (x ≡ n → ⊥) → stands_in (x ∷ cs) n ≡ false
not_first n x cs r away =
    let l : n ≤ x = first_least n x cs r in
    let m : n ≢ x = λ e. away (sym e) in
    stands_before (suc n) (x ∷ cs) n (rises_later n x cs r (omega arith)) (omega arith)

-- a count that stops at the last number, behind which none stands
pub counted : (count next : ℕ) (cs : List ℕ) → do_rise (count + 1) cs ≡ true → (2 ^ 64 ≤ count + 1 → length cs ≡ 0) → next ≡ min (count + 1) (2 ^ 64 - 1)
    → (do_rise next cs ≡ true) × ((k : ℕ) → selects cs next k ≡ selects cs count (suc k))
counted count next [] r last e = (refl, λ k. refl)
counted count next (x ∷ cs) r last e =
    let short : count + 1 < 2 ^ 64 = by (cases_lt (count + 1) (2 ^ 64)) in
    let is : next ≡ count + 1 = omega (arith, e) in
    (ap (λ n. do_rise n (x ∷ cs)) is ∙ r, λ k. ap (stands_in (x ∷ cs)) (let s : next + k ≡ count + suc k = omega arith in s))
  where
    by : (count + 1 < 2 ^ 64) ⊎ (2 ^ 64 ≤ count + 1) → count + 1 < 2 ^ 64
    by (inl m) = m
    by (inr m) = let none : suc (length cs) ≡ 0 = last m in absurd (omega arith)

-- behind a number the others still stand
pub marked_later : (count next : ℕ) (cs rest : List ℕ) → do_rise (count + 1) rest ≡ true → (2 ^ 64 ≤ count + 1 → length rest ≡ 0) → next ≡ min (count + 1) (2 ^ 64 - 1) → ((c : ℕ) → count < c → stands_in rest c ≡ stands_in cs c)
    → (k : ℕ) → selects rest next k ≡ selects cs count (suc k)
marked_later count next cs rest r last e others k = (counted count next rest r last e).1 k ∙ others (count + suc k) (omega arith)

-- the item of a number is marked so
pub is_marked : {A : Type 0} (cs : List ℕ) (count : ℕ) (b : Bool) (x : A) → stands_in cs count ≡ b → marked b x ≡ marked (selects cs count 0) x
is_marked cs count b x e = ap (λ t. marked t x) (sym e ∙ ap (stands_in cs) (let z : count ≡ count + 0 = omega arith in z))

-- ── calls one after another ──

same_marks : {A : Type 0} (now later : ℕ → Bool) (xs : List A) → ((k : ℕ) → now k ≡ later k) → all_marked now xs ≡ all_marked later xs
same_marks now later [] h = refl
same_marks now later (x ∷ xs) h = ap (λ b. marked b x ∷ all_marked (λ k. now (suc k)) xs) (h 0) ∙ ap (λ ys. marked (later 0) x ∷ ys) (same_marks (λ k. now (suc k)) (λ k. later (suc k)) xs (λ k. h (suc k)))

-- an iterator whose calls give marked items gives its source's items in order, each marked by its number
pub marked_in_order : {T S A : Type 0} (steps : S → Option A → S → Type 0) (source : T → S) (now : T → ℕ → Bool) (s : T) (ys : List (ProjectionResult A)) (t : T)
    → Yields (λ a r b. GivesMarked steps (source a) (source b) (now a) (now b) r) s ys t → (xs : List A) × Yields steps (source s) xs (source t) × (ys ≡ all_marked (now s) xs)
marked_in_order steps source now s [] t h = ([], ap source h, refl)
marked_in_order steps source now s (y ∷ ys) t h =
    let x = h.1 in
    let rest = marked_in_order steps source now h.0 ys t h.2 in (
      x.0 ∷ rest.0,
      (source h.0, x.2, rest.1),
      ap (λ z. z ∷ ys) x.1 ∙ ap (λ zs. marked (now s 0) x.0 ∷ zs) (rest.2 ∙ same_marks (now h.0) (λ k. now s (suc k)) rest.0 x.3),
    )
