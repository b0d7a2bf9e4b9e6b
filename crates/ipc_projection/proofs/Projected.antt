-- What is read for a projection and then put in the order asked is what stands at the columns asked for.
use Rattle.std.proofs.Common.{◌≡◌, ℕ, zero, suc, ◌+◌, ◌<◌, ◌≤◌, List, [], ◌∷◌, length, get_or, Some, true, false, arith, refl, sym, ap, subst, ◌∙◌, inl, inr, ◌⊎◌}
use Rattle.std.specs.Prelude.{slice_get, nat_eq, nat_lt, ◌||◌}
use Rattle.std.specs.Rc.{rc_value}
use Rattle.std.proofs.lemmas.Bool.{and_parts, cases_lt}
use Rattle.std.proofs.lemmas.Option.{same_Some, slice_get-get_or, slice_get_past}
use Rattle.arrow_spec.specs.Columns.{stands_in}
use Rattle.arrow_types.specs.Schemas.{Keyed}
use Rattle.arrow_arrays.specs.Batches.{Batch}
use Rattle.arrow_arrays.specs.Parts.{Parts}
use Rattle.ipc_read_laws.specs.Projection.{do_rise, are_below, chosen, kept}
use Rattle.ipc_read_laws.proofs.Rising.{stands_before}
use Rattle.ipc_projection.specs.declared.projection.ProjectionInfo.{ProjectionInfo}
use Rattle.ipc_projection.specs.Places.{IsPermutation, StandAt, entry}
use Rattle.ipc_projection.specs.Projections.{IsProjection, IsReordered, IsSame}
use Rattle.ipc_projection.proofs.Numbers.{below_each, least, rest_rises, rises_later}

-- ── what is chosen ──

-- items stand at numbers of a list that is counted from c on
record StandFrom {A : Type 0} (c : ℕ) (all : List A) (numbers : List ℕ) (items : List A) : Type 0 where
  count : length items ≡ length numbers
  each : (i k : ℕ) → slice_get numbers i ≡ Some (c + k) → slice_get items i ≡ slice_get all k

-- one item before those that are counted, at no number
further : {A : Type 0} (c : ℕ) (x : A) (all : List A) (numbers : List ℕ) (items : List A) → do_rise (suc c) numbers ≡ true → StandFrom (suc c) all numbers items → StandFrom c (x ∷ all) numbers items
further c x all numbers items r s = record { count = s.count; each = λ i k e. at i k e }
  where
    at : (i k : ℕ) → slice_get numbers i ≡ Some (c + k) → slice_get items i ≡ slice_get (x ∷ all) k
    at i zero e = let l : suc c ≤ c + 0 = least (suc c) numbers r i (c + 0) e in absurd (omega arith)
    at i (suc k) e = s.each i k (e ∙ ap Some (let n : c + suc k ≡ suc c + k = omega arith in n))

-- and one at the first number
at_first : {A : Type 0} (c : ℕ) (x : A) (all : List A) (numbers : List ℕ) (items : List A) → StandFrom c (x ∷ all) numbers items → StandFrom c (x ∷ all) (c ∷ numbers) (x ∷ items)
at_first c x all numbers items s = record { count = ap suc s.count; each = λ i k e. at i k e }
  where
    at : (i k : ℕ) → slice_get (c ∷ numbers) i ≡ Some (c + k) → slice_get (x ∷ items) i ≡ slice_get (x ∷ all) k
    at zero zero e = refl
    at zero (suc k) e = let n : c ≡ c + suc k = same_Some _ _ e in absurd (omega arith)
    at (suc i) k e = s.each i k e

-- rising numbers begin with the least that they may have, or rise from the next one on
first_or_later : (c : ℕ) (numbers : List ℕ) → do_rise c numbers ≡ true → ((rest : List ℕ) × (numbers ≡ c ∷ rest) × (do_rise (suc c) rest ≡ true)) ⊎ (do_rise (suc c) numbers ≡ true)
first_or_later c [] r = inr refl
first_or_later c (d ∷ rest) r = by (cases_lt c d)
  where
    by : (c < d) ⊎ (d ≤ c) → ((ns : List ℕ) × ((d ∷ rest) ≡ c ∷ ns) × (do_rise (suc c) ns ≡ true)) ⊎ (do_rise (suc c) (d ∷ rest) ≡ true)
    by (inl l) = inr (rises_later c d rest r l)
    by (inr l) =
        let low : c ≤ d = least c (d ∷ rest) r 0 d refl in
        let same : d ≡ c = omega arith in
        inl (rest, ap (λ n. n ∷ rest) same, ap (λ n. do_rise (suc n) rest) (sym same) ∙ rest_rises c d rest r)

-- numbers that rise from c on are the only ones from there on that count
in_turn : {A : Type 0} (asked numbers : List ℕ) (c : ℕ) (all : List A) → ((e : ℕ) → c ≤ e → stands_in asked e ≡ stands_in numbers e) → do_rise c numbers ≡ true → are_below (c + length all) numbers ≡ true
    → StandFrom c all numbers (chosen (Some asked) c all)
in_turn asked [] c [] h r b = record { count = refl; each = λ i k e. cc }
in_turn asked (d ∷ numbers) c [] h r b =
    let low : c ≤ d = least c (d ∷ numbers) r 0 d refl in
    let high : d < c + 0 = below_each (c + 0) (d ∷ numbers) b 0 d refl in
    absurd (omega arith)
in_turn {A = A} asked numbers c (x ∷ all) h r b = by (first_or_later c numbers r) (λ ns. in_turn asked ns (suc c) all)
  where
    length_is : c + suc (length all) ≡ suc c + length all
    length_is = omega arith

    by : ((ns : List ℕ) × (numbers ≡ c ∷ ns) × (do_rise (suc c) ns ≡ true)) ⊎ (do_rise (suc c) numbers ≡ true)
        → ((ns : List ℕ) → ((e : ℕ) → suc c ≤ e → stands_in asked e ≡ stands_in ns e) → do_rise (suc c) ns ≡ true → are_below (suc c + length all) ns ≡ true → StandFrom (suc c) all ns (chosen (Some asked) (suc c) all))
        → StandFrom c (x ∷ all) numbers (kept (stands_in asked c) x (chosen (Some asked) (suc c) all))
    by (inl first) later =
        let ns = first.0 in
        let is : stands_in asked c ≡ true = h c (omega arith) ∙ ap (λ cs. stands_in cs c) first.1 ∙ ap (λ t. t || stands_in ns c) (let t : nat_eq c c ≡ true = grind arith in t) in
        let same : (e : ℕ) → suc c ≤ e → stands_in asked e ≡ stands_in ns e = λ e l. h e (omega arith) ∙ ap (λ cs. stands_in cs e) first.1 ∙ ap (λ t. t || stands_in ns e) (let t : nat_eq c e ≡ false = grind arith in t) in
        let below = (and_parts (nat_lt c (c + suc (length all))) (are_below (c + suc (length all)) ns) (sym (ap (are_below (c + suc (length all))) first.1) ∙ b)).1 in
        let s = at_first c x all ns _ (further c x all ns _ first.2 (later ns same first.2 (sym (ap (λ n. are_below n ns) length_is) ∙ below))) in
        subst (λ t. StandFrom c (x ∷ all) numbers (kept t x (chosen (Some asked) (suc c) all))) (sym is) (subst (λ cs. StandFrom c (x ∷ all) cs (x ∷ chosen (Some asked) (suc c) all)) (sym first.1) s)
    by (inr more) later =
        let s = further c x all numbers _ more (later numbers (λ e l. h e (omega (arith, l))) more (sym (ap (λ n. are_below n numbers) length_is) ∙ b)) in
        subst (λ t. StandFrom c (x ∷ all) numbers (kept t x (chosen (Some asked) (suc c) all))) (sym (h c (omega arith) ∙ stands_before (suc c) numbers c more (omega arith))) s

pub chosen_stand : {A : Type 0} (cs : List ℕ) (all : List A) → do_rise 0 cs ≡ true → are_below (length all) cs ≡ true → StandAt all cs (chosen (Some cs) 0 all)
chosen_stand cs all r b =
    let n : length all ≡ 0 + length all = omega arith in
    let s = in_turn cs cs 0 all (λ e _. refl) r (ap (λ k. are_below k cs) (sym n) ∙ b) in
    record {
      count = s.count;
      each = λ j c e. s.each j c (e ∙ ap Some (let z : c ≡ 0 + c = omega arith in z));
    }

-- ── items at places are known by the places ──

same_items : {A : Type 0} (xs ys : List A) → ((j : ℕ) → slice_get xs j ≡ slice_get ys j) → xs ≡ ys
same_items [] [] h = refl
same_items [] (y ∷ ys) h = let e = h 0 in cc
same_items (x ∷ xs) [] h = let e = h 0 in cc
same_items (x ∷ xs) (y ∷ ys) h = ap (λ z. z ∷ xs) (same_Some _ _ (h 0)) ∙ ap (λ zs. y ∷ zs) (same_items xs ys (λ j. h (suc j)))

pub stand_once : {A : Type 0} (all : List A) (places : List ℕ) (xs ys : List A) → StandAt all places xs → StandAt all places ys → xs ≡ ys
stand_once all places xs ys s t = same_items xs ys (λ j. by j (cases_lt j (length places)))
  where
    by : (j : ℕ) → (j < length places) ⊎ (length places ≤ j) → slice_get xs j ≡ slice_get ys j
    by j (inl l) = let e = slice_get-get_or places j 0 l in s.each j (get_or places j 0) e ∙ sym (t.each j (get_or places j 0) e)
    by j (inr l) =
        let n : length xs ≡ length places = s.count in
        let m : length ys ≡ length places = t.count in
        slice_get_past xs j (omega arith) ∙ sym (slice_get_past ys j (omega arith))

-- ── projections ──

-- items that were read for a projection, and led where its map leads, are those asked for
led : {A : Type 0} (schema : List Keyed) (asked : List ℕ) (p : ProjectionInfo) → IsProjection schema asked p → (all old new : List A) → length all ≡ length schema → old ≡ chosen (Some p.columns.items) 0 all → length new ≡ length old
    → ((i j : ℕ) → entry p.map i ≡ Some j → slice_get new j ≡ slice_get old i) → StandAt all asked new
led schema asked p h all old new w e n each =
    let s = chosen_stand p.columns.items all h.rising (ap (λ k. are_below k p.columns.items) w ∙ h.below) in
    record {
      count = n ∙ ap length e ∙ s.count ∙ h.count;
      each = λ j c f. let i = h.places j c f in each i.0 j i.2 ∙ ap (λ xs. slice_get xs i.0) e ∙ s.each i.0 c i.1;
    }

-- a batch that was read for a projection may be put in the order asked
pub applicable : {A : Type 0} (schema : List Keyed) (asked : List ℕ) (p : ProjectionInfo) → IsProjection schema asked p → (all arrays : List A) → length all ≡ length schema → arrays ≡ chosen (Some p.columns.items) 0 all
    → IsPermutation p.map (length arrays)
applicable schema asked p h all arrays w e =
    let s = chosen_stand p.columns.items all h.rising (ap (λ k. are_below k p.columns.items) w ∙ h.below) in
    subst (IsPermutation p.map) (sym (ap length e ∙ s.count ∙ h.count)) h.permutes

-- then its columns are those asked for
pub applied_arrays : (schema : List Keyed) (asked : List ℕ) (p : ProjectionInfo) → IsProjection schema asked p → (all : List Parts) (old new : Batch) → length all ≡ length schema → old.arrays ≡ chosen (Some p.columns.items) 0 all
    → IsReordered p.map old new → StandAt all asked new.arrays
applied_arrays schema asked p h all old new w e r = led schema asked p h all old.arrays new.arrays w e r.width r.arrays

-- and its fields are the projection's
pub applied_schema : (schema : List Keyed) (asked : List ℕ) (p : ProjectionInfo) → IsProjection schema asked p → (old new : Batch) → old.schema ≡ chosen (Some p.columns.items) 0 schema → IsReordered p.map old new
    → new.schema ≡ rc_value p.schema
applied_schema schema asked p h old new e r = stand_once schema asked new.schema (rc_value p.schema) (led schema asked p h schema old.schema new.schema refl e r.fields r.schema) h.fields

-- a copy of a projection is one
pub same_projection : (schema : List Keyed) (asked : List ℕ) (p q : ProjectionInfo) → IsProjection schema asked p → IsSame p q → IsProjection schema asked q
same_projection schema asked p q h s = record {
  rising = ap (do_rise 0) s.columns ∙ h.rising;
  below = ap (are_below (length schema)) s.columns ∙ h.below;
  same = λ c. ap (λ cs. stands_in cs c) s.columns ∙ h.same c;
  count = ap length s.columns ∙ h.count;
  places = λ j c e. let i = h.places j c e in (i.0, ap (λ cs. slice_get cs i.0) s.columns ∙ i.1, s.map i.0 ∙ i.2);
  permutes = record {
    inside = λ i j e. h.permutes.inside i j (sym (s.map i) ∙ e);
    led = λ i l. let j = h.permutes.led i l in (j.0, s.map i ∙ j.1);
    reached = λ j l. let i = h.permutes.reached j l in (i.0, s.map i.0 ∙ i.1);
    once = λ i k j e f. h.permutes.once i k j (sym (s.map i) ∙ e) (sym (s.map k) ∙ f);
  };
  fields = subst (StandAt schema asked) (sym s.schema) h.fields;
}
