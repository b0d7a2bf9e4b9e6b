-- Items that stand at places of a list, as far as the first few places go.
use Rattle.std.proofs.Common.{◌≡◌, ℕ, zero, suc, ◌+◌, ◌<◌, ◌≤◌, List, [], ◌∷◌, ◌++◌, length, map, set, Option, Some, arith, refl, sym, ap, ◌∙◌, inl, inr, ◌⊎◌}
use Rattle.std.specs.Prelude.{slice_get}
use Rattle.std.specs.Option.{option_map}
use Rattle.std.proofs.lemmas.Bool.{cases_lt}
use Rattle.std.proofs.lemmas.List.{length-append, length-set, length-map}
use Rattle.std.proofs.lemmas.Option.{slice_get_within, slice_get-map, same_Some}
use Rattle.ipc_projection.specs.Places.{ArePlaces, StandAt}

-- ── one item more, and one item taken ──

pub get_before : {A : Type 0} (xs ys : List A) (i : ℕ) → i < length xs → slice_get (xs ++ ys) i ≡ slice_get xs i
get_before [] ys i h = absurd (omega (arith, h))
get_before (x ∷ xs) ys zero h = refl
get_before (x ∷ xs) ys (suc i) h = get_before xs ys i (omega (arith, h))

pub item_at : {A : Type 0} (xs : List A) (i : ℕ) → i < length xs → (x : A) × (slice_get xs i ≡ Some x)
item_at [] i h = absurd (omega (arith, h))
item_at (x ∷ xs) zero h = (x, refl)
item_at (x ∷ xs) (suc i) h = item_at xs i (omega (arith, h))

pub get_pushed : {A : Type 0} (xs : List A) (x : A) (i : ℕ) → i ≡ length xs → slice_get (xs ++ x ∷ []) i ≡ Some x
get_pushed [] x zero h = refl
get_pushed [] x (suc i) h = absurd (omega (arith, h))
get_pushed (y ∷ xs) x zero h = absurd (omega (arith, h))
get_pushed (y ∷ xs) x (suc i) h = get_pushed xs x i (omega (arith, h))

pub get_set : {A : Type 0} (xs : List A) (c : ℕ) (y : A) → c < length xs → slice_get (set xs c y) c ≡ Some y
get_set [] c y h = absurd (omega (arith, h))
get_set (x ∷ xs) zero y h = refl
get_set (x ∷ xs) (suc c) y h = get_set xs c y (omega (arith, h))

pub get_others : {A : Type 0} (xs : List A) (c : ℕ) (y : A) (d : ℕ) → (d ≡ c → ⊥) → slice_get (set xs c y) d ≡ slice_get xs d
get_others [] c y d h = refl
get_others (x ∷ xs) zero y zero h = absurd (h refl)
get_others (x ∷ xs) zero y (suc d) h = refl
get_others (x ∷ xs) (suc c) y zero h = refl
get_others (x ∷ xs) (suc c) y (suc d) h = get_others xs c y d (λ e. h (ap suc e))

-- ── the items at the first i places ──

pub record StandSoFar {A : Type 0} (all : List A) (places : List ℕ) (i : ℕ) (items : List A) : Type 0 where
  pub count : length items ≡ i
  pub each : (j c : ℕ) → j < i → slice_get places j ≡ Some c → slice_get items j ≡ slice_get all c

pub none_stood : {A : Type 0} (all : List A) (places : List ℕ) (items : List A) → items ≡ [] → StandSoFar all places 0 items
none_stood all places items e = record { count = ap length e; each = λ j c l. absurd (omega (arith, l)) }

pub one_more : {A : Type 0} (all : List A) (places : List ℕ) (i : ℕ) (items : List A) → StandSoFar all places i items → (c : ℕ) (x : A) → slice_get places i ≡ Some c → slice_get all c ≡ Some x → (new : List A) → new ≡ items ++ x ∷ []
    → StandSoFar all places (i + 1) new
one_more all places i items s c x e f new is = record {
  count = ap length is ∙ length-append items (x ∷ []) ∙ omega (arith, s.count);
  each = λ j d l g. ap (λ xs. slice_get xs j) is ∙ by j d l g (cases_lt j i);
}
  where
    by : (j d : ℕ) → j < i + 1 → slice_get places j ≡ Some d → (j < i) ⊎ (i ≤ j) → slice_get (items ++ x ∷ []) j ≡ slice_get all d
    by j d l g (inl k) = get_before items (x ∷ []) j (omega (arith, s.count)) ∙ s.each j d k g
    by j d l g (inr k) =
        let same : j ≡ i = omega (arith, l, k) in
        let d_is : c ≡ d = same_Some _ _ (sym e ∙ ap (slice_get places) (sym same) ∙ g) in
        get_pushed items x j (omega (arith, same, s.count)) ∙ sym f ∙ ap (slice_get all) d_is

pub all_stood : {A : Type 0} (all : List A) (places : List ℕ) (i : ℕ) (items : List A) → StandSoFar all places i items → i ≡ length places → StandAt all places items
all_stood all places i items s e = record {
  count = s.count ∙ e;
  each = λ j c g. s.each j c (let l : j < length places = slice_get_within places j c g in omega arith) g;
}

-- ── slots from which items are taken ──

-- what stands at places from i on is left
pub record AreLeft {A : Type 0} (all : List A) (places : List ℕ) (i : ℕ) (slots : List (Option A)) : Type 0 where
  pub count : length slots ≡ length all
  pub each : (c : ℕ) → ((j : ℕ) → j < i → slice_get places j ≡ Some c → ⊥) → slice_get slots c ≡ option_map Some (slice_get all c)

pub all_left : {A : Type 0} (all : List A) (places : List ℕ) (slots : List (Option A)) → slots ≡ map Some all → AreLeft all places 0 slots
all_left all places slots e = record {
  count = ap length e ∙ length-map all Some;
  each = λ c _. ap (λ ss. slice_get ss c) e ∙ slice_get-map Some all c;
}

-- the next item is there
pub next_left : {A : Type 0} (all : List A) (places : List ℕ) (i : ℕ) (slots : List (Option A)) → ArePlaces places (length all) → AreLeft all places i slots → (c : ℕ) → slice_get places i ≡ Some c
    → (x : A) × (slice_get all c ≡ Some x) × (slice_get slots c ≡ Some (Some x))
next_left all places i slots p s c e =
    let x = item_at all c (p.below i c e) in
    (x.0, x.1, s.each c (λ j l f. let k : j ≡ i = p.once j i c f e in omega (arith, l)) ∙ ap (option_map Some) x.1)

pub one_taken : {A : Type 0} (all : List A) (places : List ℕ) (i : ℕ) (slots : List (Option A)) → AreLeft all places i slots → (c : ℕ) → slice_get places i ≡ Some c → (taken : Option A) → AreLeft all places (i + 1) (set slots c taken)
one_taken all places i slots s c e taken = record {
  count = length-set slots c taken ∙ s.count;
  each = λ d away. get_others slots c taken d (λ same. away i (omega arith) (e ∙ ap Some (sym same))) ∙ s.each d (λ j l. away j (omega (arith, l)));
}
