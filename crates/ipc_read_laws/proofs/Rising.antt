-- Rising numbers: the first is the least, and which numbers stand among them.
use Rattle.std.proofs.Common.{◌≡◌, ℕ, zero, suc, ◌<◌, ◌≤◌, List, [], ◌∷◌, length, Result, Ok, Err, Bool, true, false, refl, sym, arith, ◌⊎◌, inl, inr}
use Rattle.std.proofs.lemmas.Bool.{and_parts, cases_lt}
use Rattle.std.specs.Result.{is_ok}
use Rattle.std.specs.Prelude.{get_or, nat_eq, nat_le, ◌||◌, MatchResult}
use Rattle.arrow_spec.specs.Columns.{stands_in}
use Rattle.ipc_read_laws.specs.Projection.{do_rise}

-- the first one is at least the bound, and the others are behind it
pub rise_first : (low c : ℕ) (cs : List ℕ) → do_rise low (c ∷ cs) ≡ true → low ≤ c
rise_first low c cs h = let e : nat_le low c ≡ true = (and_parts (nat_le low c) (do_rise (suc c) cs) h).0 in grind arith

pub rise_rest : (low c : ℕ) (cs : List ℕ) → do_rise low (c ∷ cs) ≡ true → do_rise (suc c) cs ≡ true
rise_rest low c cs h = (and_parts (nat_le low c) (do_rise (suc c) cs) h).1

rise_least : (low : ℕ) (cs : List ℕ) (i : ℕ) → do_rise low cs ≡ true → i < length cs → low ≤ get_or cs i 0
rise_least low [] i h k = omega (arith, k)
rise_least low (c ∷ cs) zero h k = rise_first low c cs h
rise_least low (c ∷ cs) (suc i) h k =
    let a = rise_first low c cs h in
    let b = rise_least (suc c) cs i (rise_rest low c cs h) (omega (arith, k)) in
    omega (arith, a, b)

pub rises : (low : ℕ) (cs : List ℕ) → do_rise low cs ≡ true → (i j : ℕ) → i ≤ j → j < length cs → get_or cs i 0 ≤ get_or cs j 0
rises low [] h i j a b = omega (arith, b)
rises low (c ∷ cs) h zero zero a b = omega arith
rises low (c ∷ cs) h zero (suc j) a b = let r = rise_least (suc c) cs j (rise_rest low c cs h) (omega (arith, b)) in omega (arith, r)
rises low (c ∷ cs) h (suc i) zero a b = omega (arith, a)
rises low (c ∷ cs) h (suc i) (suc j) a b = rises (suc c) cs (rise_rest low c cs h) i j (omega (arith, a)) (omega (arith, b))

pub stands_at : (cs : List ℕ) (i c : ℕ) → i < length cs → get_or cs i 0 ≡ c → stands_in cs c ≡ true
stands_at [] i c h e = absurd (omega (arith, h))
stands_at (x ∷ cs) zero c h e = let f : nat_eq x c ≡ true = grind arith in rw f refl
stands_at (x ∷ cs) (suc i) c h e = rw (stands_at cs i c (omega (arith, h)) e) (either (nat_eq x c))
  where
    either : (b : Bool) → (b || true) ≡ true
    either true = refl
    either false = refl

pub stands_nowhere : (cs : List ℕ) (c : ℕ) → ((i : ℕ) → i < length cs → (get_or cs i 0 < c) ⊎ (c < get_or cs i 0)) → stands_in cs c ≡ false
stands_nowhere [] c h = refl
stands_nowhere (x ∷ cs) c h =
    let f : nat_eq x c ≡ false = apart (h 0 (omega arith)) in
    rw f (stands_nowhere cs c (λ i k. h (suc i) (omega (arith, k))))
  where
    apart : (x < c) ⊎ (c < x) → nat_eq x c ≡ false
    apart (inl k) = grind arith
    apart (inr k) = grind arith

-- what a search among them says
pub stands_by_search : (cs : List ℕ) (c : ℕ) (r : Result ℕ ℕ) → MatchResult r (λ i. (i < length cs) × (get_or cs i 0 ≡ c)) (λ i. (i ≤ length cs) × ((k : ℕ) → k < i → get_or cs k 0 < c) × ((k : ℕ) → i ≤ k → k < length cs → c < get_or cs k 0)) → is_ok r ≡ stands_in cs c
stands_by_search cs c (Ok i) h = sym (stands_at cs i c h.0 h.1)
stands_by_search cs c (Err i) h = sym (stands_nowhere cs c (λ k l. side k l (cases_lt k i)))
  where
    side : (k : ℕ) → k < length cs → (k < i) ⊎ (i ≤ k) → (get_or cs k 0 < c) ⊎ (c < get_or cs k 0)
    side k l (inl less) = inl (h.1 k less)
    side k l (inr more) = inr (h.2 k more l)

-- none of rising numbers stands before the bound
pub stands_before : (low : ℕ) (cs : List ℕ) (c : ℕ) → do_rise low cs ≡ true → c < low → stands_in cs c ≡ false
stands_before low cs c h k = stands_nowhere cs c (λ i j. let r = rise_least low cs i h j in inr (omega (arith, r, k)))
