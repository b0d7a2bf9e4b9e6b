-- Where values fit into a list, and what they find there.
use Rattle.std.proofs.Common.{◌≡◌, ◌∙◌, sym, refl, ap, ℕ, zero, suc, ◌-◌, ◌<◌, ◌≤◌, List, [], ◌∷◌, ◌++◌, length, drop, Bool, true, false, ◌&&◌, arith}
use Rattle.std.proofs.lemmas.List.{append_assoc, append-nil, drop_all, length-append, length-drop}
use Rattle.std.proofs.Math.Seq.{drop-nil}
use Rattle.std.proofs.lemmas.Bool.Decides.{leb_tells}
use Rattle.std.proofs.Common.{subst}
use Rattle.std.proofs.lemmas.Bool.{leb-false, leb-true}
use Rattle.std.proofs.Common.{inl, inr, ◌⊎◌}
use Rattle.std.specs.List.{AllByRecursion}
use Rattle.std.specs.Prelude.{nat_le}
use Rattle.laws_unify.specs.Lists.{IsTest, agree, fit, rest, with_all, with_values}
use Rattle.laws_unify.specs.Laws.{EachIsFound, FitIsLeast, FitStays, GoesOnWhereItStood, NothingIsAddedTwice}

pub no_both : (t : Bool) → t ≡ true → t ≡ false → ⊥
no_both true h k = cc
no_both false h k = cc

pub below_or : (a b : ℕ) → nat_le a b ≡ true → a ≤ b
below_or a b h = leb-true a b h

pub above_or : (a b : ℕ) → nat_le a b ≡ false → b < a
above_or a b h = leb-false a b h

-- ── lists that agree ──

-- what two items and the lists behind them say
pub record Both (b c : Bool) : Type 0 where
  pub first : b ≡ true
  pub others : c ≡ true

pub both : (b c : Bool) → (b && c) ≡ true → Both b c
both true true h = record { first = refl; others = refl }
both true false h = cc
both false c h = cc

-- what stands behind them makes them one
agree_joined : {A : Type 0} (same : A → A → Bool) (xs ys : List A) → IsTest same → agree same xs ys ≡ true → xs ++ drop (length xs) ys ≡ ys ++ drop (length ys) xs
agree_joined same [] ys t h = sym (ap (λ z. ys ++ z) (drop-nil (length ys)) ∙ append-nil ys)
agree_joined same (x ∷ xs) [] t h = append-nil (x ∷ xs)
agree_joined same (x ∷ xs) (y ∷ ys) t h =
    let p = both (same x y) (agree same xs ys) h in
    let e = agree_joined same xs ys t p.others in
    ap (λ z. z ∷ (xs ++ drop (length xs) ys)) (t.sound x y p.first) ∙ ap (λ zs. y ∷ zs) e

-- a list that begins with another agrees with it
agree_front : {A : Type 0} (same : A → A → Bool) (v more : List A) → IsTest same → agree same (v ++ more) v ≡ true
agree_front same [] [] t = refl
agree_front same [] (m ∷ ms) t = refl
agree_front same (x ∷ xs) more t = rw (t.same_itself x) (agree_front same xs more t)

-- what does not hold of one of two does not hold of both
both_false : (b c d : Bool) → (b && c) ≡ false → (c ≡ false → d ≡ false) → (b && d) ≡ false
both_false true c d h k = k h
both_false false c d h k = refl

-- lists that do not agree do not where more is appended
differ_longer : {A : Type 0} (same : A → A → Bool) (xs ys more : List A) → agree same xs ys ≡ false → agree same (xs ++ more) ys ≡ false
differ_longer same [] ys more h = cc
differ_longer same (x ∷ xs) [] more h = cc
differ_longer same (x ∷ xs) (y ∷ ys) more h = both_false (same x y) (agree same xs ys) (agree same (xs ++ more) ys) h (λ k. differ_longer same xs ys more k)

differ_beyond : {A : Type 0} (same : A → A → Bool) (xs ys more : List A) → agree same xs ys ≡ false → agree same xs (ys ++ more) ≡ false
differ_beyond same [] ys more h = cc
differ_beyond same (x ∷ xs) [] more h = cc
differ_beyond same (x ∷ xs) (y ∷ ys) more h = both_false (same x y) (agree same xs ys) (agree same xs (ys ++ more)) h (λ k. differ_beyond same xs ys more k)

-- ── the least place ──

pub fit_here : {A : Type 0} (same : A → A → Bool) (u v : List A) → agree same u v ≡ true → fit same u v ≡ 0
fit_here same [] v h = refl
fit_here same (x ∷ xs) v h = rw (fit, h) refl

fit_later : {A : Type 0} (same : A → A → Bool) (x : A) (xs v : List A) → agree same (x ∷ xs) v ≡ false → fit same (x ∷ xs) v ≡ suc (fit same xs v)
fit_later same x xs v h = rw (fit, h) refl

-- each list agrees with another or not
pub data Says (b : Bool) : Type 0 where
  yes : b ≡ true → Says b
  no : b ≡ false → Says b

pub says : (b : Bool) → Says b
says true = yes refl
says false = no refl

fit_within : {A : Type 0} (same : A → A → Bool) (u v : List A) → fit same u v ≤ length u
fit_within same [] v = omega arith
fit_within same (x ∷ xs) v = by (says (agree same (x ∷ xs) v)) (fit_within same xs v)
  where
    by : Says (agree same (x ∷ xs) v) → fit same xs v ≤ length xs → fit same (x ∷ xs) v ≤ length (x ∷ xs)
    by (yes h) k = rw (fit_here same (x ∷ xs) v h) (omega arith)
    by (no h) k = rw (fit_later same x xs v h) (omega (arith, k))

fit_agrees : {A : Type 0} (same : A → A → Bool) (u v : List A) → agree same (drop (fit same u v) u) v ≡ true
fit_agrees same [] v = refl
fit_agrees same (x ∷ xs) v = by (says (agree same (x ∷ xs) v)) (fit_agrees same xs v)
  where
    by : Says (agree same (x ∷ xs) v) → agree same (drop (fit same xs v) xs) v ≡ true → agree same (drop (fit same (x ∷ xs) v) (x ∷ xs)) v ≡ true
    by (yes h) k = rw (fit_here same (x ∷ xs) v h) h
    by (no h) k = rw (fit_later same x xs v h) k

fit_least : {A : Type 0} (same : A → A → Bool) (u v : List A) (i : ℕ) → i < fit same u v → agree same (drop i u) v ≡ false
fit_least same [] v i h = absurd (omega (arith, h))
fit_least same (x ∷ xs) v zero h = by (says (agree same (x ∷ xs) v)) h
  where
    by : Says (agree same (x ∷ xs) v) → 0 < fit same (x ∷ xs) v → agree same (x ∷ xs) v ≡ false
    by (yes k) l = let e = fit_here same (x ∷ xs) v k in absurd (omega (arith, e, l))
    by (no k) l = k
fit_least same (x ∷ xs) v (suc i) h = by (says (agree same (x ∷ xs) v)) h (λ k. fit_least same xs v i k)
  where
    by : Says (agree same (x ∷ xs) v) → suc i < fit same (x ∷ xs) v → (i < fit same xs v → agree same (drop i xs) v ≡ false) → agree same (drop (suc i) (x ∷ xs)) v ≡ false
    by (yes k) l m = let e = fit_here same (x ∷ xs) v k in absurd (omega (arith, e, l))
    by (no k) l m = let e = fit_later same x xs v k in m (omega (arith, e, l))

pub fit_is_least : FitIsLeast
fit_is_least same u v = record { within = fit_within same u v; agrees = fit_agrees same u v; least = fit_least same u v }

-- ── values that were taken ──

-- behind the items before their place they begin what is left of the list
with_front : {A : Type 0} (same : A → A → Bool) (x : A) (xs v : List A) → agree same (x ∷ xs) v ≡ false → with_values same (x ∷ xs) v ≡ x ∷ with_values same xs v
with_front same x xs v h =
    let e = fit_later same x xs v h in
    let n : length (x ∷ xs) - fit same (x ∷ xs) v ≡ length xs - fit same xs v = omega (arith, e) in
    rw n refl

with_here : {A : Type 0} (same : A → A → Bool) (u v : List A) → IsTest same → agree same u v ≡ true → with_values same u v ≡ v ++ drop (length v) u
with_here same u v t h =
    let e = fit_here same u v h in
    let n : length u - fit same u v ≡ length u = omega (arith, e) in
    rw n (agree_joined same u v t h)

-- the place stays, whatever is appended
stays : {A : Type 0} (same : A → A → Bool) (u v more : List A) → IsTest same → fit same (with_values same u v ++ more) v ≡ fit same u v
stays same [] v more t = fit_here same (v ++ more) v (agree_front same v more t)
stays same (x ∷ xs) v more t = by (says (agree same (x ∷ xs) v)) (stays same xs v more t)
  where
    by : Says (agree same (x ∷ xs) v) → fit same (with_values same xs v ++ more) v ≡ fit same xs v → fit same (with_values same (x ∷ xs) v ++ more) v ≡ fit same (x ∷ xs) v
    by (yes h) k =
        let e = with_here same (x ∷ xs) v t h in
        let f = append_assoc v (drop (length v) (x ∷ xs)) more in
        ap (λ z. fit same (z ++ more) v) e ∙ ap (λ z. fit same z v) f ∙ fit_here same (v ++ (drop (length v) (x ∷ xs) ++ more)) v (agree_front same v _ t) ∙ sym (fit_here same (x ∷ xs) v h)
    by (no h) k =
        let e = with_front same x xs v h in
        let d = differ_longer same (x ∷ xs) v (rest same xs v ++ more) h in
        let d1 : agree same (x ∷ (with_values same xs v ++ more)) v ≡ false = ap (λ z. agree same (x ∷ z) v) (append_assoc xs (rest same xs v) more) ∙ d in
        ap (λ z. fit same (z ++ more) v) e ∙ fit_later same x (with_values same xs v ++ more) v d1 ∙ ap suc k ∙ sym (fit_later same x xs v h)

stands : {A : Type 0} (same : A → A → Bool) (u v more : List A) → IsTest same → (m : List A) × (drop (fit same u v) (with_values same u v ++ more) ≡ v ++ m)
stands same [] v more t = (more, refl)
stands same (x ∷ xs) v more t = by (says (agree same (x ∷ xs) v)) (stands same xs v more t)
  where
    by : Says (agree same (x ∷ xs) v) → (m : List _) × (drop (fit same xs v) (with_values same xs v ++ more) ≡ v ++ m) → (m : List _) × (drop (fit same (x ∷ xs) v) (with_values same (x ∷ xs) v ++ more) ≡ v ++ m)
    by (yes h) k =
        let e = with_here same (x ∷ xs) v t h in
        let f = append_assoc v (drop (length v) (x ∷ xs)) more in
        (drop (length v) (x ∷ xs) ++ more, ap (λ n. drop n (with_values same (x ∷ xs) v ++ more)) (fit_here same (x ∷ xs) v h) ∙ ap (λ z. z ++ more) e ∙ f)
    by (no h) k =
        let e = with_front same x xs v h in
        (k.0, ap (λ n. drop n (with_values same (x ∷ xs) v ++ more)) (fit_later same x xs v h) ∙ ap (λ z. drop (suc (fit same xs v)) (z ++ more)) e ∙ k.1)

pub fit_stays : FitStays
fit_stays same u v more t =
    let e = stays same u v more t in
    let s = stands same u v more t in
    (e, (s.0, ap (λ n. drop n (with_values same u v ++ more)) e ∙ s.1))

-- ── again ──

-- values that stand in a list have nothing beyond it
nothing_beyond : {A : Type 0} (same : A → A → Bool) (u v more : List A) → drop (fit same u v) u ≡ v ++ more → with_values same u v ≡ u
nothing_beyond same u v more h =
    let l : length (drop (fit same u v) u) ≡ length (v ++ more) = ap length h in
    let n : length v ≤ length u - fit same u v = omega (arith, l, length-drop (fit same u v) u, length-append v more) in
    ap (λ z. u ++ z) (drop_all (length u - fit same u v) v n) ∙ append-nil u

pub nothing_is_added_twice : NothingIsAddedTwice
nothing_is_added_twice same u v more t =
    let s = fit_stays same u v more t in
    nothing_beyond same (with_values same u v ++ more) v s.1.0 s.1.1

-- ── values that go on ──

-- lists that agree, the first of which begins with another: so does the second, where it is no shorter
front_of : {A : Type 0} (same : A → A → Bool) (w more v : List A) → IsTest same → length w ≤ length v → agree same (w ++ more) v ≡ true → (m : List A) × (v ≡ w ++ m)
front_of same [] more v t le h = (v, refl)
front_of same (x ∷ w) more [] t le h = absurd (omega (arith, le))
front_of same (x ∷ w) more (y ∷ v) t le h =
    let p = both (same x y) (agree same (w ++ more) v) h in
    let f = front_of same w more v t (omega (arith, le)) p.others in
    (f.0, ap (λ z. z ∷ v) (sym (t.sound x y p.first)) ∙ ap (λ zs. x ∷ zs) f.1)

-- a place at which two agree, and before which none is, is the least
pub is_fit : {A : Type 0} (same : A → A → Bool) (u v : List A) (at : ℕ) → at ≤ length u → agree same (drop at u) v ≡ true → ((i : ℕ) → i < at → agree same (drop i u) v ≡ false) → fit same u v ≡ at
is_fit same u v at within agrees none = by (leb_tells (suc at) (fit same u v)) (leb_tells (suc (fit same u v)) at)
  where
    by : ((nat_le (suc at) (fit same u v) ≡ true) × (suc at ≤ fit same u v)) ⊎ ((nat_le (suc at) (fit same u v) ≡ false) × (fit same u v < suc at))
        → ((nat_le (suc (fit same u v)) at ≡ true) × (suc (fit same u v) ≤ at)) ⊎ ((nat_le (suc (fit same u v)) at ≡ false) × (at < suc (fit same u v))) → fit same u v ≡ at
    by (inl h) k = absurd (no_both (agree same (drop at u) v) agrees (fit_least same u v at h.1))
    by (inr h) (inl k) = absurd (no_both (agree same (drop (fit same u v) u) v) (fit_agrees same u v) (none (fit same u v) k.1))
    by (inr h) (inr k) = let a = h.1 in let b = k.1 in omega (arith, a, b)

pub goes_on_where_it_stood : GoesOnWhereItStood
goes_on_where_it_stood same u w more v t stands le agrees =
    let front = front_of same w more v t le (subst (λ xs. agree same xs v ≡ true) stands agrees) in
    is_fit same u v (fit same u w) (fit_within same u w) agrees
    (λ i below. subst (λ xs. agree same (drop i u) xs ≡ false) (sym front.1) (differ_beyond same (drop i u) w front.0 (fit_least same u w i below)))

-- ── several ──

-- the list of all begins with what it was
begins : {A : Type 0} (same : A → A → Bool) (u : List A) (vs : List (List A)) → (m : List A) × (with_all same u vs ≡ u ++ m)
begins same u [] = ([], sym (append-nil u))
begins same u (v ∷ vs) =
    let b = begins same (with_values same u v) vs in
    (rest same u v ++ b.0, b.1 ∙ append_assoc u (rest same u v) b.0)

each_found : {A : Type 0} (same : A → A → Bool) (u : List A) (vs : List (List A)) → IsTest same → AllByRecursion (λ v. (m : List A) × (drop (fit same (with_all same u vs) v) (with_all same u vs) ≡ v ++ m)) vs
each_found same u [] t = tt
each_found same u (v ∷ vs) t =
    let b = begins same (with_values same u v) vs in
    let s = stands same u v b.0 t in
    let e = stays same u v b.0 t in
    ((s.0, ap (λ z. drop (fit same z v) z) b.1 ∙ ap (λ n. drop n (with_values same u v ++ b.0)) e ∙ s.1), each_found same (with_values same u v) vs t)

pub each_is_found : EachIsFound
each_is_found same u vs t = each_found same u vs t
