-- Rows without nulls that are as long as others and have the same bytes are the same.
use Rattle.std.proofs.Common.{◌≡◌, ◌⊎◌, ℕ, suc, ◌+◌, ◌-◌, ◌≤◌, ◌<◌, List, Bool, true, None, ℤ, length, inl, inr, sym, ap, ◌∙◌, arith}
use Rattle.std.proofs.lemmas.Bool.{cases_eq}
use Rattle.arrow_spec.specs.Arrays.{from_on, slice}
use Rattle.arrow_spec.specs.Cells.{Cell}
use Rattle.arrow_buffers.specs.Rows.{part, bytes_cell, masked}
use Rattle.arrow_buffers.specs.Variable.{Variable, place_at, are_offsets, variable_rows, row_bytes, variable_cells, variable_fault}
use Rattle.arrow_buffers.proofs.Parts.{part-part, part-from_on, shift-from_on}
use Rattle.arrow_buffers.proofs.Rising.{some_offset, offset_between}
use Rattle.arrow_buffers.proofs.VariableParts.{Spanned, variable_sound}
use Rattle.same_rows.specs.Lengths.{HaveSameLengths}

-- the rows between good offsets end one behind another
pub rows_rise : (is_text s : Bool) (p : Variable) (i j : ℕ) → variable_fault is_text s p ≡ None → i ≤ j → j ≤ variable_rows p.offsets → place_at p.offsets i ≤ place_at p.offsets j
rows_rise is_text s p i j e le within =
    let spanned = (variable_sound is_text s p e).spanned in
    let one = some_offset p.offsets (length p.values) spanned.rise in
    offset_between p.offsets (length p.values) i spanned.rise j le (omega arith)

-- ── row by row ──

pub no_lengths : (offsets others : List ℤ) (from start : ℕ) → HaveSameLengths offsets from others start 0
no_lengths offsets others from start = record {
  same = λ k le. (let e : k ≡ 0 = omega arith in
      let a : place_at offsets (from + k) ≡ place_at offsets from = ap (place_at offsets) (omega arith) in
      let b : place_at others (start + k) ≡ place_at others start = ap (place_at others) (omega arith) in omega (arith, a, b));
}

pub one_more_length : (offsets others : List ℤ) (from start i : ℕ) → HaveSameLengths offsets from others start i → place_at offsets (from + i + 1) - place_at offsets from ≡ place_at others (start + i + 1) - place_at others start
    → HaveSameLengths offsets from others start (i + 1)
one_more_length offsets others from start i h e = record { same = λ k le. by k le (cases_eq k (i + 1)) }
  where
    by : (k : ℕ) → k ≤ i + 1 → (k ≡ i + 1) ⊎ (k ≡ i + 1 → ⊥) → place_at offsets (from + k) - place_at offsets from ≡ place_at others (start + k) - place_at others start
    by k le (inl q) =
        let a : place_at offsets (from + k) ≡ place_at offsets (from + i + 1) = ap (place_at offsets) (omega arith) in
        let b : place_at others (start + k) ≡ place_at others (start + i + 1) = ap (place_at others) (omega arith) in
        omega (arith, a, b, e)
    by k le (inr n) = h.same k (omega arith)

-- ── all rows ──

-- the bytes of a row are a part of those of all rows
row_of_all : (offsets : List ℤ) (values : List ℕ) (from count k : ℕ) → are_offsets offsets (length values) ≡ true → from + count < length offsets → k < count
    → row_bytes offsets values (from + k) ≡ part (place_at offsets (from + k) - place_at offsets from) (place_at offsets (from + suc k) - place_at offsets (from + k)) (slice values (place_at offsets from) (place_at offsets (from + count)))
row_of_all offsets values from count k rise h lt =
    let low : place_at offsets from ≤ place_at offsets (from + k) = offset_between offsets (length values) from rise (from + k) (omega arith) (omega arith) in
    let up : place_at offsets (from + k) ≤ place_at offsets (from + suc k) = offset_between offsets (length values) (from + k) rise (from + suc k) (omega arith) (omega arith) in
    let high : place_at offsets (from + suc k) ≤ place_at offsets (from + count) = offset_between offsets (length values) (from + suc k) rise (from + count) (omega arith) (omega arith) in
    let e : place_at offsets (from + k) ≡ place_at offsets from + (place_at offsets (from + k) - place_at offsets from) = omega arith in
    ap (λ j. part (place_at offsets (from + k)) (place_at offsets j - place_at offsets (from + k)) values) (omega arith)
    ∙ ap (λ j. part j (place_at offsets (from + suc k) - place_at offsets (from + k)) values) e
    ∙ part-part values (place_at offsets from) (place_at offsets (from + count) - place_at offsets from) (place_at offsets (from + k) - place_at offsets from) (place_at offsets (from + suc k) - place_at offsets (from + k)) (omega arith)

-- a row has the bytes of the one that it is compared with
same_row : (p q : Variable) (from start count k : ℕ) → Spanned p → Spanned q → from + count ≤ variable_rows p.offsets → start + count ≤ variable_rows q.offsets → HaveSameLengths p.offsets from q.offsets start count
    → slice p.values (place_at p.offsets from) (place_at p.offsets (from + count)) ≡ slice q.values (place_at q.offsets start) (place_at q.offsets (start + count)) → k < count
    → row_bytes p.offsets p.values (from + k) ≡ row_bytes q.offsets q.values (start + k)
same_row p q from start count k s t a b h e lt =
    let one = some_offset p.offsets (length p.values) s.rise in
    let other = some_offset q.offsets (length q.values) t.rise in
    let ends : place_at p.offsets (from + suc k) - place_at p.offsets (from + k) ≡ place_at q.offsets (start + suc k) - place_at q.offsets (start + k) =
    omega (
      arith,
      h.same k (omega arith),
      h.same (suc k) (omega arith),
      offset_between p.offsets (length p.values) from s.rise (from + k) (omega arith) (omega arith),
      offset_between q.offsets (length q.values) start t.rise (start + k) (omega arith) (omega arith),
    ) in
    row_of_all p.offsets p.values from count k s.rise (omega arith) lt
    ∙ ap (part (place_at p.offsets (from + k) - place_at p.offsets from) (place_at p.offsets (from + suc k) - place_at p.offsets (from + k))) e
    ∙ ap (λ o. part o (place_at p.offsets (from + suc k) - place_at p.offsets (from + k)) (slice q.values (place_at q.offsets start) (place_at q.offsets (start + count)))) (h.same k (omega arith))
    ∙ ap (λ n. part (place_at q.offsets (start + k) - place_at q.offsets start) n (slice q.values (place_at q.offsets start) (place_at q.offsets (start + count)))) ends
    ∙ sym (row_of_all q.offsets q.values start count k t.rise (omega arith) lt)

same_cells : (is_text : Bool) (p q : Variable) (from start count : ℕ) → Spanned p → Spanned q → p.validity ≡ None → q.validity ≡ None → from + count ≤ variable_rows p.offsets → start + count ≤ variable_rows q.offsets
    → HaveSameLengths p.offsets from q.offsets start count
    → slice p.values (place_at p.offsets from) (place_at p.offsets (from + count)) ≡ slice q.values (place_at q.offsets start) (place_at q.offsets (start + count))
    → part from count (variable_cells is_text p) ≡ part start count (variable_cells is_text q)
same_cells is_text p q from start count s t v w a b h e =
    let f : ℕ → Cell = λ row. bytes_cell is_text (row_bytes p.offsets p.values row) in
    let g : ℕ → Cell = λ row. bytes_cell is_text (row_bytes q.offsets q.values row) in
    let row : (k : ℕ) → k < count → f (0 + from + k) ≡ g (0 + start + k) = λ k lt. ap f (omega arith) ∙ ap (bytes_cell is_text) (same_row p q from start count k s t a b h e lt) ∙ ap g (omega arith) in
    ap (λ m. part from count (masked m (from_on f 0 (variable_rows p.offsets)))) v
    ∙ sym (part-from_on f 0 (variable_rows p.offsets) from count a)
    ∙ shift-from_on f g (0 + from) (0 + start) count row
    ∙ part-from_on g 0 (variable_rows q.offsets) start count b
    ∙ ap (λ m. part start count (masked m (from_on g 0 (variable_rows q.offsets)))) (sym w)

pub same_bytes : (is_text s t : Bool) (p q : Variable) (from start count : ℕ) → variable_fault is_text s p ≡ None → variable_fault is_text t q ≡ None → p.validity ≡ None → q.validity ≡ None
    → from + count ≤ variable_rows p.offsets → start + count ≤ variable_rows q.offsets → HaveSameLengths p.offsets from q.offsets start count
    → slice p.values (place_at p.offsets from) (place_at p.offsets (from + count)) ≡ slice q.values (place_at q.offsets start) (place_at q.offsets (start + count))
    → part from count (variable_cells is_text p) ≡ part start count (variable_cells is_text q)
same_bytes is_text s t p q from start count f g v w a b h e = same_cells is_text p q from start count (variable_sound is_text s p f).spanned (variable_sound is_text t q g).spanned v w a b h e
