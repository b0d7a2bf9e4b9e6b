-- Numbers that rise, by their places.
use Rattle.std.proofs.Common.{◌≡◌, ℕ, zero, suc, ◌+◌, ◌<◌, ◌≤◌, List, [], ◌∷◌, ◌++◌, Some, true, false, Bool, arith, refl, sym, ap, ◌∙◌, inl, inr, ◌⊎◌}
use Rattle.std.specs.Prelude.{slice_get, nat_eq, nat_le, nat_lt, ◌||◌}
use Rattle.std.proofs.lemmas.Bool.{and_parts, and_from, cases_lt}
use Rattle.std.proofs.lemmas.Option.{same_Some, slice_get_within, get_or_from_slice_get}
use Rattle.arrow_spec.specs.Columns.{stands_in}
use Rattle.ipc_read_laws.specs.Projection.{do_rise, are_below}
use Rattle.ipc_read_laws.proofs.Rising.{stands_at}

-- ── the numbers ──

pub first_least : (low x : ℕ) (cs : List ℕ) → do_rise low (x ∷ cs) ≡ true → low ≤ x
first_least low x cs h = let k : nat_le low x ≡ true = (and_parts _ _ h).0 in grind arith

pub rest_rises : (low x : ℕ) (cs : List ℕ) → do_rise low (x ∷ cs) ≡ true → do_rise (suc x) cs ≡ true
rest_rises low x cs h = (and_parts _ _ h).1

-- behind a bound that the first number passes
pub rises_later : (low x : ℕ) (cs : List ℕ) → do_rise low (x ∷ cs) ≡ true → low < x → do_rise (suc low) (x ∷ cs) ≡ true
rises_later low x cs h l = let k : nat_le (suc low) x ≡ true = grind arith in and_from _ _ k (rest_rises low x cs h)

pub least : (low : ℕ) (cs : List ℕ) → do_rise low cs ≡ true → (i c : ℕ) → slice_get cs i ≡ Some c → low ≤ c
least low [] h i c e = cc
least low (x ∷ cs) h zero c e = let s : x ≡ c = same_Some _ _ e in omega (arith, first_least low x cs h)
least low (x ∷ cs) h (suc i) c e = omega (arith, first_least low x cs h, least (suc x) cs (rest_rises low x cs h) i c e)

pub rises_strictly : (low : ℕ) (cs : List ℕ) → do_rise low cs ≡ true → (i k c d : ℕ) → i < k → slice_get cs i ≡ Some c → slice_get cs k ≡ Some d → c < d
rises_strictly low [] h i k c d l e f = cc
rises_strictly low (x ∷ cs) h i zero c d l e f = omega (arith, l)
rises_strictly low (x ∷ cs) h zero (suc k) c d l e f = let s : x ≡ c = same_Some _ _ e in omega (arith, least (suc x) cs (rest_rises low x cs h) k d f)
rises_strictly low (x ∷ cs) h (suc i) (suc k) c d l e f = rises_strictly (suc x) cs (rest_rises low x cs h) i k c d (omega (arith, l)) e f

-- each of them stands at one place
pub stands_once : (cs : List ℕ) → do_rise 0 cs ≡ true → (i k c : ℕ) → slice_get cs i ≡ Some c → slice_get cs k ≡ Some c → i ≡ k
stands_once cs h i k c e f = by (cases_lt i k) (cases_lt k i)
  where
    by : (i < k) ⊎ (k ≤ i) → (k < i) ⊎ (i ≤ k) → i ≡ k
    by (inl a) _ = let r : c < c = rises_strictly 0 cs h i k c c a e f in omega arith
    by (inr a) (inl b) = let r : c < c = rises_strictly 0 cs h k i c c b f e in omega arith
    by (inr a) (inr b) = omega (arith, a, b)

pub below_each : (n : ℕ) (cs : List ℕ) → are_below n cs ≡ true → (i c : ℕ) → slice_get cs i ≡ Some c → c < n
below_each n [] h i c e = cc
below_each n (x ∷ cs) h zero c e =
    let k : nat_lt x n ≡ true = (and_parts _ _ h).0 in
    let s : x ≡ c = same_Some _ _ e in
    grind arith
below_each n (x ∷ cs) h (suc i) c e = below_each n cs (and_parts _ _ h).1 i c e

-- ── one more number ──

lt_more : (x n : ℕ) → nat_lt x n ≡ true → nat_lt x (n + 1) ≡ true
lt_more x n h = grind arith

pub below_more : (n : ℕ) (cs : List ℕ) → are_below n cs ≡ true → are_below (n + 1) cs ≡ true
below_more n [] h = refl
below_more n (x ∷ cs) h = and_from _ _ (lt_more x n (and_parts _ _ h).0) (below_more n cs (and_parts _ _ h).1)

pub below_pushed : (n : ℕ) (cs : List ℕ) → are_below n cs ≡ true → are_below (n + 1) (cs ++ n ∷ []) ≡ true
below_pushed n [] h = let l : nat_lt n (n + 1) ≡ true = grind arith in and_from _ _ l refl
below_pushed n (x ∷ cs) h = and_from _ _ (lt_more x n (and_parts _ _ h).0) (below_pushed n cs (and_parts _ _ h).1)

pub rise_pushed : (low n : ℕ) (cs : List ℕ) → do_rise low cs ≡ true → are_below n cs ≡ true → low ≤ n → do_rise low (cs ++ n ∷ []) ≡ true
rise_pushed low n [] h b l = let k : nat_le low n ≡ true = grind arith in and_from _ _ k refl
rise_pushed low n (x ∷ cs) h b l =
    let m : nat_lt x n ≡ true = (and_parts _ _ b).0 in
    let y : suc x ≤ n = grind arith in
    and_from _ _ (and_parts _ _ h).0 (rise_pushed (suc x) n cs (and_parts _ _ h).1 (and_parts _ _ b).1 y)

-- ── which numbers stand in a list ──

pub place_of : (xs : List ℕ) (c : ℕ) → stands_in xs c ≡ true → (i : ℕ) × (slice_get xs i ≡ Some c)
place_of [] c h = cc
place_of (x ∷ xs) c h = by (nat_eq x c) refl (place_of xs c)
  where
    by : (b : Bool) → nat_eq x c ≡ b → (stands_in xs c ≡ true → (i : ℕ) × (slice_get xs i ≡ Some c)) → (i : ℕ) × (slice_get (x ∷ xs) i ≡ Some c)
    by true e _ = let s : x ≡ c = grind arith in (0, ap Some s)
    by false e later = let r = later (ap (λ b. b || stands_in xs c) (sym e) ∙ h) in (suc r.0, r.1)

-- tests that hold together are one
same_tests : (a b : Bool) → (a ≡ true → b ≡ true) → (b ≡ true → a ≡ true) → a ≡ b
same_tests true b f g = sym (f refl)
same_tests false true f g = g refl
same_tests false false f g = refl

-- lists with the same numbers
pub same_numbers : (xs ys : List ℕ) → ((i c : ℕ) → slice_get xs i ≡ Some c → (j : ℕ) × (slice_get ys j ≡ Some c)) → ((j c : ℕ) → slice_get ys j ≡ Some c → (i : ℕ) × (slice_get xs i ≡ Some c))
    → (c : ℕ) → stands_in xs c ≡ stands_in ys c
same_numbers xs ys f g c = same_tests (stands_in xs c) (stands_in ys c)
    (λ h. let i = place_of xs c h in let j = f i.0 c i.1 in stands ys c j.0 j.1)
    (λ h. let j = place_of ys c h in let i = g j.0 c j.1 in stands xs c i.0 i.1)
  where
    stands : (zs : List ℕ) (d i : ℕ) → slice_get zs i ≡ Some d → stands_in zs d ≡ true
    stands zs d i e = stands_at zs i d (slice_get_within zs i d e) (get_or_from_slice_get zs i d 0 e)
