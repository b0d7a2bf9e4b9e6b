-- Parts that are put behind a list.
use Rattle.std.proofs.Common.{◌≡◌, ◌∙◌, ℕ, ◌+◌, ◌-◌, ◌<◌, ◌≤◌, List, [], ◌∷◌, ◌++◌, None, length, take, drop, get_or, true, false, refl, sym, ap, subst, arith, inl, inr, ◌⊎◌, append-nil, length-append, length-drop, Result, Ok, Err, IfOk}
use Rattle.std.specs.Prelude.{nat_le}
use Rattle.std.proofs.lemmas.Bool.Decides.{leb_tells}
use Rattle.std.proofs.lemmas.List.{at_drop_all, at_drop_more, length-take-le, take-append-drop, take_at}
use Rattle.arrow_spec.specs.Arrays.{from_on}
use Rattle.arrow_spec.specs.Cells.{Cell}
use Rattle.arrow_arrays.specs.Parts.{Forest, also, none, fault_each, fault_in, rows_in}
use Rattle.arrow_arrays.specs.PartsOf.{forest_of, parts_of}
use Rattle.arrow_arrays.specs.declared.array.Array.{Array}
use Rattle.arrow_arrays.proofs.Forests.{one_more_sound}
use Rattle.arrow_arrays.proofs.Sliced.{fault-part, rows-part}
use Rattle.laws_unify.specs.Lists.{StandsAt, agree, fit, with_values}
use Rattle.laws_unify.specs.Over.{is_same_cell, values_of}
use Rattle.laws_unify.specs.United.{behind, parts_from, rows_from, with_parts}
use Rattle.laws_unify.proofs.Cells.{is_cell_test}
use Rattle.laws_unify.proofs.Fits.{fit_here, fit_is_least, fit_stays, goes_on_where_it_stood}
use Rattle.laws_unify.proofs.Goes.{behind-behind, behind-none}
use Rattle.laws_unify.proofs.Parts.{parts_are_the_list}
use Rattle.dictionary_places.specs.Lists.{LastStands}
use Rattle.dictionary_places.specs.Places.{AreRows, place, places_from}
use Rattle.dictionary_places.specs.declared.rows.Place.{Place}
use Rattle.dictionary_places.proofs.Places.{more_places}

-- ── forests ──

more_forest : (xs : List Array) (y : Array) → forest_of (xs ++ y ∷ []) ≡ behind (forest_of xs) (also (parts_of y) none)
more_forest [] y = refl
more_forest (x ∷ xs) y = ap (also (parts_of x)) (more_forest xs y)

-- ── a loop over parts ──

pub no_more : (a b : ℕ) → b < a → nat_le a b ≡ false
no_more a b h = by (leb_tells a b)
  where
    by : ((nat_le a b ≡ true) × (a ≤ b)) ⊎ ((nat_le a b ≡ false) × (b < a)) → nat_le a b ≡ false
    by (inl t) = absurd (omega (arith, t.1, h))
    by (inr f) = f.0

pub as_many : (a b : ℕ) → a ≤ b → nat_le a b ≡ true
as_many a b h = by (leb_tells a b)
  where
    by : ((nat_le a b ≡ true) × (a ≤ b)) ⊎ ((nat_le a b ≡ false) × (b < a)) → nat_le a b ≡ true
    by (inl t) = t.0
    by (inr f) = absurd (omega (arith, f.1, h))

-- a part all of whose rows are held
pub passed : (xs : List Array) (i rest : ℕ) (x : Array) → i < length xs → x ≡ get_or xs i x → nat_le (rows_in (parts_of x)) rest ≡ true
    → parts_from rest (forest_of (drop i xs)) ≡ parts_from (rest - rows_in (parts_of x)) (forest_of (drop (i + 1) xs))
passed xs i rest x h e le =
    at_drop_more (λ ys. parts_from rest (forest_of ys)) xs i x h ∙ ap (λ y. parts_from rest (also (parts_of y) (forest_of (drop (i + 1) xs)))) (sym e) ∙ rw (parts_from, le) refl

-- a part with rows that are not
pub appended : (us : List Array) (xs : List Array) (i rest : ℕ) (x y : Array) → i < length xs → x ≡ get_or xs i x → nat_le (rows_in (parts_of x)) rest ≡ false → parts_of y ≡ rows_from rest (parts_of x)
    → behind (forest_of us) (parts_from rest (forest_of (drop i xs))) ≡ behind (forest_of (us ++ y ∷ [])) (parts_from 0 (forest_of (drop (i + 1) xs)))
appended us xs i rest x y h e gt copy =
    let others = parts_from 0 (forest_of (drop (i + 1) xs)) in
    let opened : parts_from rest (also (parts_of x) (forest_of (drop (i + 1) xs))) ≡ also (rows_from rest (parts_of x)) others = rw (parts_from, gt) refl in
    ap (behind (forest_of us)) (at_drop_more (λ ys. parts_from rest (forest_of ys)) xs i x h ∙ ap (λ z. parts_from rest (also (parts_of z) (forest_of (drop (i + 1) xs)))) (sym e) ∙ opened ∙ ap (λ p. also p others) (sym copy))
    ∙ sym (behind-behind (forest_of us) (also (parts_of y) none) others) ∙ ap (λ ps. behind ps others) (sym (more_forest us y))

-- no part is left
pub none_left : (us xs : List Array) (i rest : ℕ) → length xs ≤ i → behind (forest_of us) (parts_from rest (forest_of (drop i xs))) ≡ forest_of us
none_left us xs i rest h = ap (behind (forest_of us)) (at_drop_all (λ ys. parts_from rest (forest_of ys)) xs i h) ∙ behind-none (forest_of us)

-- the rows of a part more
pub more_rows : (us : List Array) (places new : List Place) (rest : ℕ) (x y : Array) → AreRows us places → fault_in (parts_of x) ≡ None → rest ≤ rows_in (parts_of x) → parts_of y ≡ rows_from rest (parts_of x)
    → new ≡ places ++ from_on (place (length us)) 0 (rows_in (parts_of x) - rest) → AreRows (us ++ y ∷ []) new
more_rows us places new rest x y r f le copy e =
    let n = rows_in (parts_of x) - rest in
    let within : rest + n ≤ rows_in (parts_of x) = omega (arith, le) in
    let rows : n ≡ rows_in (parts_of y) = sym (rows-part rest n (parts_of x) f within) ∙ ap rows_in (sym copy) in
    let zero_on : length us ≡ 0 + length us = omega arith in
    record {
      are = e ∙ ap (λ ps. ps ++ from_on (place (length us)) 0 n) r.are ∙ ap (λ k. places_from 0 us ++ from_on (place (length us)) 0 k) rows ∙ ap (λ k. places_from 0 us ++ from_on (place k) 0 (rows_in (parts_of y))) zero_on ∙ sym (more_places 0 us y);
      sound = one_more_sound us y r.sound (ap fault_in copy ∙ fault-part rest n (parts_of x) f within);
    }

-- ── what was taken last ──

-- values that stand in a list fit there
pub stood : (u v : List Cell) (at rows : ℕ) → StandsAt is_same_cell u v → at ≡ fit is_same_cell u v → rows ≡ length v → at ≤ length u → LastStands u at rows
stood u v at rows s e n le =
    let there : drop at u ≡ v ++ s.0 = ap (λ k. drop k u) e ∙ s.1 in
    let front : take rows (drop at u) ≡ v = ap (take rows) there ∙ take_at v s.0 rows (sym n) in
    let count = ap length there in
    record { within = omega (arith, count, length-drop at u, length-append v s.0, n, le); fits = ap (fit is_same_cell u) front ∙ sym e }

-- so do those that were appended
pub stands_now : (list parts : Forest) → fault_each parts ≡ None → StandsAt is_same_cell (values_of (with_parts list parts)) (values_of parts) × (fit is_same_cell (values_of (with_parts list parts)) (values_of parts) ≡ fit is_same_cell (values_of list) (values_of parts))
stands_now list parts f =
    let u = values_of list in
    let v = values_of parts in
    let e : values_of (with_parts list parts) ≡ with_values is_same_cell u v ++ [] = parts_are_the_list list parts f ∙ sym (append-nil (with_values is_same_cell u v)) in
    let s = fit_stays is_same_cell u v [] is_cell_test in
    (subst (λ w. StandsAt is_same_cell w v) (sym e) s.1, ap (λ w. fit is_same_cell w v) e ∙ s.0)

pub stood_now : (list parts new : Forest) (at rows : ℕ) → new ≡ with_parts list parts → fault_each parts ≡ None → at ≡ fit is_same_cell (values_of list) (values_of parts) → rows ≡ length (values_of parts) → LastStands (values_of new) at rows
stood_now list parts new at rows e f fits n =
    let u = values_of (with_parts list parts) in
    let v = values_of parts in
    let s = stands_now list parts f in
    let there : at ≡ fit is_same_cell u v = fits ∙ sym s.1 in
    let within = (fit_is_least is_same_cell u v).within in
    subst (λ ps. LastStands (values_of ps) at rows) (sym e) (stood u v at rows s.0 there n (omega (arith, within, there)))

-- nothing was taken yet
pub none_taken : (u : List Cell) → LastStands u 0 0
none_taken u = record { within = omega arith; fits = fit_here is_same_cell u [] (agrees u) }
  where
    agrees : (u : List Cell) → agree is_same_cell u [] ≡ true
    agrees [] = refl
    agrees (x ∷ xs) = refl

-- values that begin with those that were taken last, and agree with the list from their place on, fit there
pub last_fits : (u v : List Cell) (at rows : ℕ) → LastStands u at rows → rows ≤ length v → agree is_same_cell (drop at u) v ≡ true → at ≡ fit is_same_cell u v
last_fits u v at rows l le a =
    let w = take rows (drop at u) in
    let there : drop (fit is_same_cell u w) u ≡ w ++ drop rows (drop at u) = ap (λ n. drop n u) l.fits ∙ sym (take-append-drop rows (drop at u)) in
    let room : rows ≤ length (drop at u) = omega (arith, l.within, length-drop at u) in
    let short : length w ≤ length v = omega (arith, length-take-le rows (drop at u) room, le) in
    sym (goes_on_where_it_stood is_same_cell u w (drop rows (drop at u)) v is_cell_test there short (ap (λ n. agree is_same_cell (drop n u) v) l.fits ∙ a) ∙ l.fits)

pub within_as : {E : Type 0} (r : Result ℕ E) (u v : List Cell) (n : ℕ) → length u ≡ n → IfOk r (λ k. k ≡ fit is_same_cell u v) → IfOk r (λ k. k ≤ n)
within_as (Ok k) u v n e h = let within = (fit_is_least is_same_cell u v).within in omega (arith, within, e, h)
within_as (Err x) u v n e h = tt
