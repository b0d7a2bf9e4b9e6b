-- The numbers of the columns that have a place, one after another.
use Rattle.std.proofs.Common.{◌≡◌, ℕ, ◌+◌, ◌<◌, ◌≤◌, List, [], ◌∷◌, ◌++◌, length, Option, Some, None, false, arith, refl, sym, ap, ◌∙◌, inl, inr, ◌⊎◌, Less, Greater}
use Rattle.std.specs.BTreeMap.{BTreeMap, is_at}
use Rattle.std.specs.Cmp.{nat_cmp_is}
use Rattle.std.specs.Map.{lookup}
use Rattle.std.specs.Ordering.{is_eq, nat_cmp}
use Rattle.std.specs.Prelude.{is_some, slice_get}
use Rattle.std.proofs.lemmas.Bool.{cases_lt}
use Rattle.std.proofs.lemmas.List.{length-append}
use Rattle.std.proofs.lemmas.List.Sums.{count_by_more_yes, count_by_more_no}
use Rattle.std.proofs.lemmas.Option.{slice_get_within, get_or_from_slice_get, same_Some, none-some}
use Rattle.ipc_read_laws.specs.Projection.{do_rise, are_below}
use Rattle.ipc_projection.specs.Places.{AreRising, entry}
use Rattle.ipc_projection.proofs.Numbers.{below_more, below_pushed, rise_pushed}
use Rattle.ipc_projection.proofs.Stood.{get_before, get_pushed}

-- a number's entry is at no other number
pub apart : (k q : ℕ) → (q ≡ k → ⊥) → is_at (nat_cmp k) q ≡ false
apart k q away = by (cases_lt k q) (cases_lt q k)
  where
    by : (k < q) ⊎ (q ≤ k) → (q < k) ⊎ (k ≤ q) → is_at (nat_cmp k) q ≡ false
    by (inl l) _ = ap is_eq (sym (nat_cmp_is k q Less l))
    by (inr l) (inl m) = ap is_eq (sym (nat_cmp_is k q Greater m))
    by (inr l) (inr m) = absurd (away (omega (arith, l, m)))

pub none_risen : (places : List (Option ℕ)) (columns : List ℕ) (m : BTreeMap ℕ ℕ) → columns ≡ [] → m.entries ≡ [] → AreRising places 0 columns m
none_risen places columns m e f = record {
  rising = ap (do_rise 0) e;
  below = ap (are_below 0) e;
  each = λ i c g. absurd (none-some c (sym (ap (λ cs. slice_get cs i) e) ∙ g));
  found = λ c j l. absurd (omega (arith, l));
  ends = λ i _. ap (lookup (is_at (nat_cmp i))) f;
  count = ap length e;
}

-- a column without a place is passed over
pub one_passed : (places : List (Option ℕ)) (n : ℕ) (columns : List ℕ) (m : BTreeMap ℕ ℕ) → AreRising places n columns m → slice_get places n ≡ Some None → AreRising places (n + 1) columns m
one_passed places n columns m r e = record {
  rising = r.rising;
  below = below_more n columns r.below;
  each = r.each;
  found = λ c j l f. found c j l f (cases_lt c n);
  ends = r.ends;
  count = r.count ∙ sym (count_by_more_no is_some places n None (slice_get_within places n None e) (ap is_some (get_or_from_slice_get places n None None e)));
}
  where
    found : (c j : ℕ) → c < n + 1 → slice_get places c ≡ Some (Some j) → (c < n) ⊎ (n ≤ c) → (i : ℕ) × (slice_get columns i ≡ Some c)
    found c j l f (inl k) = r.found c j k f
    found c j l f (inr k) =
        let s : n ≡ c = omega (arith, l, k) in
        absurd (none-some j (same_Some _ _ (sym e ∙ ap (slice_get places) s ∙ f)))

-- and one with a place comes next
pub one_risen : (places : List (Option ℕ)) (n : ℕ) (columns : List ℕ) (m : BTreeMap ℕ ℕ) → AreRising places n columns m → (j : ℕ) → slice_get places n ≡ Some (Some j)
    → (new : BTreeMap ℕ ℕ) → entry new (length columns) ≡ Some j → ((i : ℕ) → (i ≡ length columns → ⊥) → entry new i ≡ entry m i) → AreRising places (n + 1) (columns ++ n ∷ []) new
one_risen places n columns m r j e new put others = record {
  rising = rise_pushed 0 n columns r.rising r.below (omega arith);
  below = below_pushed n columns r.below;
  each = λ i c f. each i c f (cases_lt i (length columns));
  found = λ c k l f. found c k l f (cases_lt c n);
  ends = λ i l. let g : length columns + 1 ≤ i = omega (arith, longer, l) in others i (λ s. omega (arith, s, g)) ∙ r.ends i (omega arith);
  count = longer ∙ ap (λ k. k + 1) r.count ∙ sym (count_by_more_yes is_some places n None (slice_get_within places n (Some j) e) (ap is_some (get_or_from_slice_get places n (Some j) None e)));
}
  where
    longer : length (columns ++ n ∷ []) ≡ length columns + 1
    longer = length-append columns (n ∷ [])

    each : (i c : ℕ) → slice_get (columns ++ n ∷ []) i ≡ Some c → (i < length columns) ⊎ (length columns ≤ i) → (k : ℕ) × (slice_get places c ≡ Some (Some k)) × (entry new i ≡ Some k)
    each i c f (inl l) =
        let was = r.each i c (sym (get_before columns (n ∷ []) i l) ∙ f) in
        (was.0, was.1, others i (λ s. omega (arith, s, l)) ∙ was.2)
    each i c f (inr l) =
        let h : i < length (columns ++ n ∷ []) = slice_get_within (columns ++ n ∷ []) i c f in
        let last : i ≡ length columns = omega (arith, longer) in
        let s : n ≡ c = same_Some _ _ (sym (get_pushed columns n i last) ∙ f) in
        (j, ap (slice_get places) (sym s) ∙ e, ap (entry new) last ∙ put)

    found : (c k : ℕ) → c < n + 1 → slice_get places c ≡ Some (Some k) → (c < n) ⊎ (n ≤ c) → (i : ℕ) × (slice_get (columns ++ n ∷ []) i ≡ Some c)
    found c k l f (inl h) =
        let was = r.found c k h f in
        (was.0, get_before columns (n ∷ []) was.0 (slice_get_within columns was.0 c was.1) ∙ was.1)
    found c k l f (inr h) =
        let s : n ≡ c = omega (arith, l, h) in
        (length columns, get_pushed columns n (length columns) refl ∙ ap Some s)

pub without : (o : Option ℕ) → ((j : ℕ) → o ≡ Some j → ⊥) → o ≡ None
without None h = refl
without (Some j) h = absurd (h j refl)
