-- How places survive item by item.
use Rattle.std.proofs.Common.{◌≡◌, ◌≢◌, ◌∙◌, sym, refl, ap, ℕ, zero, suc, ◌+◌, ◌-◌, ◌<◌, ◌≤◌, List, [], ◌∷◌, ◌++◌, length, drop, get_or, Bool, true, false, arith, inl, inr, ◌⊎◌}
use Rattle.std.proofs.lemmas.List.{get_or-drop, get_or_append_left, length-append, length-drop}
use Rattle.std.proofs.Math.Seq.{get_or-append_seam}
use Rattle.std.specs.Prelude.{nat_le}
use Rattle.std.proofs.Common.{subst}
use Rattle.std.proofs.lemmas.Bool.Decides.{leb_tells}
use Rattle.laws_unify.specs.Lists.{agree, fit}
use Rattle.dictionary_places.specs.Places.{AreSame, SomeDiffers}
use Rattle.dictionary_places.specs.Shifts.{AreShifts, IsShift, Survives}
use Rattle.arrow_spec.specs.Cells.{Cell, null}
use Rattle.laws_unify.specs.Over.{is_same_cell}
use Rattle.laws_unify.proofs.Cells.{is_cell_test}
use Rattle.laws_unify.proofs.Fits.{both, is_fit}

-- what survives up to an item survives up to an earlier one
pub earlier : (u v : List Cell) (at i k : ℕ) → i ≤ k → Survives u v at k → Survives u v at i
earlier u v at i k le s j below short = s j (omega (arith, le, below)) short

-- one item more
pub one_more : (u v : List Cell) (at i : ℕ) → at ≤ i → Survives u v at i → get_or v (i - at) null ≡ get_or u i null → Survives u v at (i + 1)
one_more u v at i le s same j below short = by (leb_tells (suc (at + j)) i)
  where
    by : ((nat_le (suc (at + j)) i ≡ true) × (suc (at + j) ≤ i)) ⊎ ((nat_le (suc (at + j)) i ≡ false) × (i < suc (at + j))) → get_or u (at + j) null ≡ get_or v j null
    by (inl h) = let lt = h.1 in s j (omega (arith, lt)) short
    by (inr h) =
        let gt = h.1 in
        let e : at + j ≡ i = omega (arith, gt, below) in
        let f : j ≡ i - at = omega (arith, gt, below, le) in
        ap (λ k. get_or u k null) e ∙ sym same ∙ ap (λ k. get_or v k null) (sym f)

-- the place behind the item
pub behind_all : (u v : List Cell) (i : ℕ) → Survives u v (i + 1) (i + 1)
behind_all u v i j below short = absurd (omega (arith, below))

-- ── shifts ──

-- a place that is shifted survives up to the item
pub shifted : (u v : List Cell) (at i d : ℕ) → at ≤ i → i < at + length v → Survives u v at i → Survives v v d (i - at) → Survives u v (at + d) i
shifted u v at i d le few s t j below short =
    let e : at + d + j ≡ at + (d + j) = omega arith in
    ap (λ k. get_or u k null) e ∙ s (d + j) (omega (arith, below)) (omega (arith, below, le, few)) ∙ t j (omega (arith, below, le)) short

-- and what is between them does not
pub unshifted : (u v : List Cell) (at i f : ℕ) → at ≤ i → i < at + length v → Survives u v at i → Survives u v (at + f) (i + 1) → Survives v v f (i - at)
unshifted u v at i f le few s t j below short =
    let e : at + f + j ≡ at + (f + j) = omega arith in
    sym (s (f + j) (omega (arith, below, le)) (omega (arith, below, le, few))) ∙ ap (λ k. get_or u k null) (sym e) ∙ t j (omega (arith, below, le)) short

-- a place at which the item differs does not survive it
pub differs : (u v : List Cell) (at i : ℕ) → at ≤ i → i < at + length v → get_or v (i - at) null ≢ get_or u i null → Survives u v at (i + 1) → ⊥
differs u v at i le few other s =
    let e : at + (i - at) ≡ i = omega (arith, le) in
    other (sym (s (i - at) (omega (arith, le)) (omega (arith, le, few))) ∙ ap (λ k. get_or u k null) e)

-- so no place before the shifted one does
pub none_between : (u v : List Cell) (at i d : ℕ) → at ≤ i → i < at + length v → Survives u v at i → get_or v (i - at) null ≢ get_or u i null → IsShift v (i - at) d
    → (e : ℕ) → at ≤ e → e < at + d → Survives u v e (i + 1) → ⊥
none_between u v at i d le few s other shift e from below t = by (leb_tells (suc at) e)
  where
    by : ((nat_le (suc at) e ≡ true) × (suc at ≤ e)) ⊎ ((nat_le (suc at) e ≡ false) × (e < suc at)) → ⊥
    by (inl h) =
        let lt = h.1 in
        let f : at + (e - at) ≡ e = omega (arith, lt) in
        let r = unshifted u v at i (e - at) le few s (subst (λ k. Survives u v k (i + 1)) (sym f) t) in
        shift.none (e - at) (omega (arith, lt)) (omega (arith, lt, below)) r
    by (inr h) =
        let gt = h.1 in
        let f : e ≡ at = omega (arith, gt, from) in
        differs u v at i le few other (subst (λ k. Survives u v k (i + 1)) f t)

-- and none from an earlier one on
pub none_after : (u v : List Cell) (from at i d : ℕ) → at ≤ i → i < at + length v → Survives u v at i → get_or v (i - at) null ≢ get_or u i null → IsShift v (i - at) d
    → ((e : ℕ) → from ≤ e → e < at → Survives u v e (i + 1) → ⊥) → (e : ℕ) → from ≤ e → e < at + d → Survives u v e (i + 1) → ⊥
none_after u v from at i d le few s other shift before e later below t = by (leb_tells (suc e) at)
  where
    by : ((nat_le (suc e) at ≡ true) × (suc e ≤ at)) ⊎ ((nat_le (suc e) at ≡ false) × (at < suc e)) → ⊥
    by (inl h) = before e later h.1 t
    by (inr h) = let ge = h.1 in none_between u v at i d le few s other shift e (omega (arith, ge)) below t

-- what stands before a place and what stands from it on
pub none_before : (u v : List Cell) (first old at i : ℕ) → ((e : ℕ) → first ≤ e → e < old → Survives u v e i → ⊥) → ((e : ℕ) → old ≤ e → e < at → Survives u v e (i + 1) → ⊥)
    → (e : ℕ) → first ≤ e → e < at → Survives u v e (i + 1) → ⊥
none_before u v first old at i before behind e later below t = by (leb_tells (suc e) old)
  where
    by : ((nat_le (suc e) old ≡ true) × (suc e ≤ old)) ⊎ ((nat_le (suc e) old ≡ false) × (old < suc e)) → ⊥
    by (inl h) = before e later h.1 (earlier u v e i (i + 1) (omega arith) t)
    by (inr h) = let ge = h.1 in behind e (omega (arith, ge)) below t

-- ── several shifts ──

pub first_shift : (v : List Cell) → AreShifts v (1 ∷ [])
first_shift v zero h = record {
  some = omega arith;
  within = omega arith;
  survives = λ j below short. absurd (omega (arith, below));
  none = λ e a b t. absurd (omega (arith, a, b));
}
first_shift v (suc q) h = absurd (omega (arith, h))

pub more_shifts : (v : List Cell) (xs : List ℕ) (d : ℕ) → AreShifts v xs → IsShift v (length xs) d → AreShifts v (xs ++ d ∷ [])
more_shifts v xs d all one q h = by (leb_tells (suc q) (length xs))
  where
    by : ((nat_le (suc q) (length xs) ≡ true) × (suc q ≤ length xs)) ⊎ ((nat_le (suc q) (length xs) ≡ false) × (length xs < suc q)) → IsShift v q (get_or (xs ++ d ∷ []) q 0)
    by (inl k) = subst (λ x. IsShift v q x) (sym (get_or_append_left xs (d ∷ []) 0 q k.1)) (all q k.1)
    by (inr k) =
        let ge = k.1 in
        let n = length-append xs (d ∷ []) in
        let e : q ≡ length xs = omega (arith, ge, h, n) in
        subst (λ p. IsShift v p (get_or (xs ++ d ∷ []) p 0)) (sym e) (subst (λ x. IsShift v (length xs) x) (sym (get_or-append_seam xs d [] 0)) one)

-- ── the least place ──

-- lists that hold the same as far as both go
abbrev AgreeAll : List Cell → List Cell → Type 0
AgreeAll xs v = (j : ℕ) → j < length xs → j < length v → get_or xs j null ≡ get_or v j null

agree_all : (xs v : List Cell) → agree is_same_cell xs v ≡ true → AgreeAll xs v
agree_all [] v h j below short = absurd (omega (arith, below))
agree_all (x ∷ xs) [] h j below short = absurd (omega (arith, short))
agree_all (x ∷ xs) (y ∷ v) h zero below short = is_cell_test.sound x y (both (is_same_cell x y) (agree is_same_cell xs v) h).first
agree_all (x ∷ xs) (y ∷ v) h (suc j) below short = agree_all xs v (both (is_same_cell x y) (agree is_same_cell xs v) h).others j (omega (arith, below)) (omega (arith, short))

pub all_agree : (xs v : List Cell) → AgreeAll xs v → agree is_same_cell xs v ≡ true
all_agree [] v h = refl
all_agree (x ∷ xs) [] h = refl
all_agree (x ∷ xs) (y ∷ v) h =
    let e : x ≡ y = h 0 (omega arith) (omega arith) in
    rw (e, is_cell_test.same_itself y) (all_agree xs v (λ j below short. h (suc j) (omega (arith, below)) (omega (arith, short))))

survivor_agrees : (u v : List Cell) (at : ℕ) → at ≤ length u → Survives u v at (length u) → agree is_same_cell (drop at u) v ≡ true
survivor_agrees u v at within s = all_agree (drop at u) v λ j below short. (let n = length-drop at u in get_or-drop at u j null ∙ s j (omega (arith, below, n)) short)

agreeing_survives : (u v : List Cell) (at : ℕ) → agree is_same_cell (drop at u) v ≡ true → Survives u v at (length u)
agreeing_survives u v at h j below short = let n = length-drop at u in sym (get_or-drop at u j null) ∙ agree_all (drop at u) v h j (omega (arith, below, n)) short

-- what does not agree
differs_there : (b : Bool) → (b ≡ true → ⊥) → b ≡ false
differs_there true h = absurd (h refl)
differs_there false h = refl

pub fits : (u v : List Cell) (at : ℕ) → at ≤ length u → Survives u v at (length u) → ((e : ℕ) → e < at → Survives u v e (length u) → ⊥) → at ≡ fit is_same_cell u v
fits u v at within s none =
    sym (is_fit is_same_cell u v at within (survivor_agrees u v at within s) (λ e below. differs_there (agree is_same_cell (drop e u) v) (λ h. none e below (agreeing_survives u v e h))))

-- a place at which all of the other list stands is the least, where none before it survived
pub fits_early : (u v : List Cell) (at i : ℕ) → i < length u → at ≤ i + 1 → i + 1 - at ≡ length v → Survives u v at (i + 1) → ((e : ℕ) → e < at → Survives u v e (i + 1) → ⊥) → at ≡ fit is_same_cell u v
fits_early u v at i inside within whole s none =
    fits u v at (omega (arith, inside, within)) (λ j below short. s j (omega (arith, within, whole, short)) short) (λ e below t. none e below (earlier u v e (i + 1) (length u) (omega (arith, inside)) t))

pub fits_nothing : (u v : List Cell) → length v ≡ 0 → 0 ≡ fit is_same_cell u v
fits_nothing u v h = fits u v 0 (omega arith) (λ j below short. absurd (omega (arith, h, short))) (λ e below t. absurd (omega (arith, below)))

-- some items that differ
pub differ_within : (u v : List Cell) (at j n : ℕ) → at + j + n ≤ length u → j + n ≤ length v → SomeDiffers u (at + j) v j n → agree is_same_cell (drop at u) v ≡ false
differ_within u v at j n inside short h = differs_there (agree is_same_cell (drop at u) v) (λ a. h (λ k lt.
    let below : j + k < length (drop at u) = omega (arith, lt, inside, length-drop at u) in
    ap (λ m. get_or u m null) (omega arith) ∙ sym (get_or-drop at u (j + k) null) ∙ agree_all (drop at u) v a (j + k) below (omega (arith, lt, short))))

-- a run of items more
pub same_on : (u v : List Cell) (at j n : ℕ) → AreSame u at v 0 j → AreSame u (at + j) v j n → AreSame u at v 0 (j + n)
same_on u v at j n front run k lt = by (leb_tells (suc k) j)
  where
    by : ((nat_le (suc k) j ≡ true) × (suc k ≤ j)) ⊎ ((nat_le (suc k) j ≡ false) × (j < suc k)) → get_or u (at + k) null ≡ get_or v (0 + k) null
    by (inl h) = front k h.1
    by (inr h) =
        let ge = h.1 in
        ap (λ m. get_or u m null) (omega (arith, ge)) ∙ run (k - j) (omega (arith, ge, lt)) ∙ ap (λ m. get_or v m null) (omega (arith, ge))

-- the shift of one item more
pub shift_more : (v : List Cell) (xs new : List ℕ) (i d : ℕ) → length xs ≡ i → AreShifts v xs → IsShift v i d → new ≡ xs ++ d ∷ [] → AreShifts v new
shift_more v xs new i d e all one grown = subst (AreShifts v) (sym grown) (more_shifts v xs d all (subst (λ k. IsShift v k d) (sym e) one))

pub none_later : (u v : List Cell) (at i : ℕ) → ((e : ℕ) → 0 ≤ e → e < at → Survives u v e i → ⊥) → (e : ℕ) → e < at → Survives u v e i → ⊥
none_later u v at i h e below s = h e (omega arith) below s
