-- Arrays over other lists hold what they held.
use Rattle.std.proofs.Common.{◌≡◌, ◌∙◌, sym, refl, ap, ℕ, zero, suc, ◌+◌, ◌<◌, ◌≤◌, List, [], ◌∷◌, ◌++◌, length, drop, Bool, true, false, not, ◌&&◌, ◌||◌, Option, Some, None, arith, pos, inl, inr, ◌⊎◌}
use Rattle.std.specs.Prelude.{ℤ, negsuc, nat_le, slice_index_or}
use Rattle.std.specs.List.{slice_get}
use Rattle.std.proofs.lemmas.Bool.Decides.{leb_tells}
use Rattle.arrow_spec.specs.Cells.{Cell}
use Rattle.arrow_spec.specs.Arrays.{from_on, keyed, cell_or_null}
use Rattle.arrow_spec.specs.Counts.{magnitude}
use Rattle.arrow_spec.specs.Faults.{some_row}
use Rattle.arrow_spec.specs.Kinds.{dictionary_count}
use Rattle.arrow_buffers.specs.Rows.{is_valid, masked, masked_by}
use Rattle.arrow_arrays.specs.Heads.{Indexed, listed, mapped, sized, structured, tagged, indexed, have_keys, head_cells, indexed_cell, is_bad_key, number_at}
use Rattle.arrow_arrays.specs.Parts.{Parts, Forest, leaf, nested, none, also, kind_in, cells_in, cells_each}
use Rattle.laws_unify.specs.Lists.{StandsAt, fit}
use Rattle.laws_unify.specs.Laws.{OverKeepsCells, OverKeepsKindsAndRows}
use Rattle.laws_unify.specs.Over.{Covers, CoversEach, Lists, is_same_cell, moved, moved_at, over, over_each, place_in, values_of}

-- ── rows ──

pub from_on-length : {A : Type 0} (f : ℕ → A) (i n : ℕ) → length (from_on f i n) ≡ n
from_on-length f i zero = refl
from_on-length f i (suc n) = ap suc (from_on-length f (suc i) n)

pub from_on-at : (f : ℕ → ℤ) (i n j : ℕ) → j < n → slice_index_or (from_on f i n) j (pos 0) ≡ f (i + j)
from_on-at f i zero j h = absurd (omega (arith, h))
from_on-at f i (suc n) zero h = let e : i + 0 ≡ i = omega arith in ap f (sym e)
from_on-at f i (suc n) (suc j) h = let e : suc i + j ≡ i + suc j = omega arith in from_on-at f (suc i) n j (omega (arith, h)) ∙ ap f e

masked_by-same : (bits : List Bool) (f g : ℕ → Cell) (i n : ℕ) → ((j : ℕ) → j < n → slice_index_or bits j true ≡ true → f (i + j) ≡ g (i + j)) → masked_by bits (from_on f i n) ≡ masked_by bits (from_on g i n)
masked_by-same [] f g i n h = refl
masked_by-same (bit ∷ bits) f g i zero h = refl
masked_by-same (true ∷ bits) f g i (suc n) h =
    let e : i + 0 ≡ i = omega arith in
    let here : f i ≡ g i = ap f (sym e) ∙ h 0 (omega arith) refl ∙ ap g e in
    let others = masked_by-same bits f g (suc i) n (λ j below bit. (let k : suc i + j ≡ i + suc j = omega arith in ap f k ∙ h (suc j) (omega (arith, below)) bit ∙ ap g (sym k))) in
    ap (λ c. c ∷ masked_by bits (from_on f (suc i) n)) here ∙ ap (λ cs. g i ∷ cs) others
masked_by-same (false ∷ bits) f g i (suc n) h =
    let others = masked_by-same bits f g (suc i) n (λ j below bit. (let k : suc i + j ≡ i + suc j = omega arith in ap f k ∙ h (suc j) (omega (arith, below)) bit ∙ ap g (sym k))) in
    ap (λ cs. Rattle.arrow_spec.specs.Cells.null ∷ cs) others

on-same : (f g : ℕ → Cell) (i n : ℕ) → ((j : ℕ) → j < n → f (i + j) ≡ g (i + j)) → from_on f i n ≡ from_on g i n
on-same f g i zero h = refl
on-same f g i (suc n) h =
    let e : i + 0 ≡ i = omega arith in
    let here : f i ≡ g i = ap f (sym e) ∙ h 0 (omega arith) ∙ ap g e in
    let others = on-same f g (suc i) n (λ j below. (let k : suc i + j ≡ i + suc j = omega arith in ap f k ∙ h (suc j) (omega (arith, below)) ∙ ap g (sym k))) in
    ap (λ c. c ∷ from_on f (suc i) n) here ∙ ap (λ cs. g i ∷ cs) others

masked-same : (v : Option (List Bool)) (f g : ℕ → Cell) (n : ℕ) → ((j : ℕ) → j < n → is_valid v j ≡ true → f j ≡ g j) → masked v (from_on f 0 n) ≡ masked v (from_on g 0 n)
masked-same None f g n h = on-same f g 0 n (λ j below. (let e : 0 + j ≡ j = omega arith in ap f e ∙ h j below refl ∙ ap g (sym e)))
masked-same (Some bits) f g n h = masked_by-same bits f g 0 n (λ j below bit. (let e : 0 + j ≡ j = omega arith in ap f e ∙ h j below bit ∙ ap g (sym e)))

-- ── keys ──

get_drop : (o : ℕ) (u : List Cell) (k : ℕ) → slice_get (drop o u) k ≡ slice_get u (o + k)
get_drop zero u k = let e : 0 + k ≡ k = omega arith in ap (λ i. slice_get u i) (sym e)
get_drop (suc o) [] k = refl
get_drop (suc o) (x ∷ u) k = let e : suc o + k ≡ suc (o + k) = omega arith in get_drop o u k ∙ ap (λ i. slice_get (x ∷ u) i) (sym e)

get_front : (v more : List Cell) (k : ℕ) → k < length v → slice_get (v ++ more) k ≡ slice_get v k
get_front [] more k h = absurd (omega (arith, h))
get_front (x ∷ v) more zero h = refl
get_front (x ∷ v) more (suc k) h = get_front v more k (omega (arith, h))

-- none of some rows is bad
pub none_bad : (bad : ℕ → Bool) (n j : ℕ) → not (some_row bad n) ≡ true → j < n → bad j ≡ false
none_bad bad zero j h below = absurd (omega (arith, below))
none_bad bad (suc n) j h below = by (leb_tells (suc j) n) (some_row bad n) (bad n) refl refl h (λ k lt. none_bad bad n j k lt)
  where
    by : ((nat_le (suc j) n ≡ true) × (suc j ≤ n)) ⊎ ((nat_le (suc j) n ≡ false) × (n < suc j)) → (s b : Bool) → some_row bad n ≡ s → bad n ≡ b → not (s || b) ≡ true
        → (not (some_row bad n) ≡ true → j < n → bad j ≡ false) → bad j ≡ false
    by (inl lt) false false s_is b_is h k = k (rw s_is refl) lt.1
    by (inr ge) false false s_is b_is h k = let g = ge.1 in let e : j ≡ n = omega (arith, g, below) in ap bad e ∙ b_is
    by t false true s_is b_is h k = cc
    by t true b s_is b_is h k = cc

-- a key that is not bad is a natural number below the count
pub record IsBelow (n : ℕ) (key : ℤ) : Type 0 where
  pub number : ℕ
  pub is : key ≡ pos number
  pub below : number < n

pub good_key : (n : ℕ) (key : ℤ) → is_bad_key n key ≡ false → IsBelow n key
good_key n (negsuc k) h = cc
good_key n (pos k) h = by (leb_tells n k) h
  where
    by : ((nat_le n k ≡ true) × (n ≤ k)) ⊎ ((nat_le n k ≡ false) × (k < n)) → (false || nat_le n k) ≡ false → IsBelow n (pos k)
    by (inl t) g = absurd (no_both (nat_le n k) t.0 g)
      where
        no_both : (t : Bool) → t ≡ true → t ≡ false → ⊥
        no_both true h k = cc
        no_both false h k = cc
    by (inr f) g = record { number = k; is = refl; below = f.1 }

pub both_false : (a b : Bool) → a ≡ true → (a && b) ≡ false → b ≡ false
both_false true b h k = k
both_false false b h k = cc

-- the cell of a moved key
found_there : (u v : List Cell) (key : ℤ) (s : StandsAt is_same_cell u v) → IsBelow (length v) key → keyed (Some u) (pos (fit is_same_cell u v + magnitude key)) ≡ keyed (Some v) key
found_there u v key s b =
    let o = fit is_same_cell u v in
    let e : magnitude key ≡ b.number = ap magnitude b.is in
    ap (λ k. keyed (Some u) (pos (o + k))) e ∙ ap cell_or_null (sym (get_drop o u b.number) ∙ ap (λ xs. slice_get xs b.number) s.1 ∙ get_front v s.0 b.number b.below) ∙ ap (λ k. keyed (Some v) k) (sym b.is)

moved_valid : (o : ℕ) (d : Indexed) (row : ℕ) → is_valid d.validity row ≡ true → moved_at o d.keys d.validity row ≡ pos (o + magnitude (number_at d.keys row))
moved_valid o d row h = rw h refl

top_keeps : (d : Indexed) (us vs : Forest) → StandsAt is_same_cell (values_of us) (values_of vs) → have_keys (length (values_of vs)) d.keys d.validity ≡ true
    → head_cells (indexed (moved (place_in us vs) d)) (cells_each us) ≡ head_cells (indexed d) (cells_each vs)
top_keeps d us vs s keys =
    let o = place_in us vs in
    let new = from_on (moved_at o d.keys d.validity) 0 (length d.keys) in
    let n = from_on-length (moved_at o d.keys d.validity) 0 (length d.keys) in
    ap (λ k. masked d.validity (from_on (indexed_cell new (cells_each us)) 0 k)) n
    ∙ masked-same d.validity (indexed_cell new (cells_each us)) (indexed_cell d.keys (cells_each vs)) (length d.keys) λ row below valid.
    (let bad = both_false (is_valid d.validity row) _ valid (none_bad _ (length d.keys) row keys below) in
    let z : 0 + row ≡ row = omega arith in
    let at : number_at new row ≡ pos (o + magnitude (number_at d.keys row)) = from_on-at (moved_at o d.keys d.validity) 0 (length d.keys) row below ∙ ap (moved_at o d.keys d.validity) z ∙ moved_valid o d row valid in
    ap (λ k. keyed (Some (values_of us)) k) at ∙ found_there (values_of us) (values_of vs) (number_at d.keys row) s (good_key _ _ bad))

-- ── arrays ──

mutual
  keeps : (us : Lists) (p : Parts) (id : ℕ) → Covers us p id → cells_in (over us p id) ≡ cells_in p
  keeps us (leaf l) id c = refl
  keeps us (nested (indexed d) parts) id c = top_keeps d (us id) parts c.0 c.1
  keeps us (nested (listed l) cs) id c = ap (head_cells (listed l)) (keeps_each us cs id c)
  keeps us (nested (mapped l) cs) id c = ap (head_cells (mapped l)) (keeps_each us cs id c)
  keeps us (nested (sized s) cs) id c = ap (head_cells (sized s)) (keeps_each us cs id c)
  keeps us (nested (structured s) cs) id c = ap (head_cells (structured s)) (keeps_each us cs id c)
  keeps us (nested (tagged t) cs) id c = ap (head_cells (tagged t)) (keeps_each us cs id c)

  pub keeps_each : (us : Lists) (ps : Forest) (id : ℕ) → CoversEach us ps id → cells_each (over_each us ps id) ≡ cells_each ps
  keeps_each us none id c = refl
  keeps_each us (also p ps) id c =
      ap (λ x. x ∷ cells_each (over_each us ps (id + dictionary_count (kind_in p)))) (keeps us p id c.0)
      ∙ ap (λ xs. cells_in p ∷ xs) (keeps_each us ps (id + dictionary_count (kind_in p)) c.1)

pub over_keeps_cells : OverKeepsCells
over_keeps_cells us p id c = keeps us p id c

pub over_keeps_kinds_and_rows : OverKeepsKindsAndRows
over_keeps_kinds_and_rows us (leaf l) id = (refl, refl)
over_keeps_kinds_and_rows us (nested (indexed d) parts) id = (refl, from_on-length _ 0 (length d.keys))
over_keeps_kinds_and_rows us (nested (listed l) cs) id = (refl, refl)
over_keeps_kinds_and_rows us (nested (mapped l) cs) id = (refl, refl)
over_keeps_kinds_and_rows us (nested (sized c) cs) id = (refl, refl)
over_keeps_kinds_and_rows us (nested (structured c) cs) id = (refl, refl)
over_keeps_kinds_and_rows us (nested (tagged t) cs) id = (refl, refl)
