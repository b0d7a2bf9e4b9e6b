-- Arrays of views: what holds of parts that are not refused, and a part of the rows.
use Rattle.std.proofs.Common.{◌≡◌, ℕ, ◌+◌, ◌*◌, ◌%◌, ◌≤◌, ◌<◌, ◌&&◌, List, Bool, true, false, Some, None, length, nat_eq, refl, sym, ap, ◌∙◌, arith}
use Rattle.std.specs.Prelude.{not, if◌then◌else◌}
use Rattle.std.specs.Option.{option_map}
use Rattle.std.proofs.lemmas.Bool.{and_parts, eqb-true, eq-eqb}
use Rattle.std.proofs.Math.Nat.{mul-mod_right}
use Rattle.arrow_spec.specs.Cells.{Cell}
use Rattle.arrow_spec.specs.Arrays.{from_on}
use Rattle.arrow_spec.specs.Faults.{some_row}
use Rattle.arrow_buffers.specs.declared.error.ArrayError.TheVariants.{DataType, Length, Utf8, View}
use Rattle.arrow_buffers.specs.Rows.{part, has_rows, is_valid, bytes_cell, masked}
use Rattle.arrow_buffers.specs.Views.{Views, view_rows, view_at, view_bytes, is_good_view, is_no_text_view, has_bad_view, has_bad_view_text, view_cells, view_part, view_fault}
use Rattle.arrow_buffers.proofs.Parts.{length-part, length-from_on, part-from_on, shift-from_on}
use Rattle.arrow_buffers.proofs.Masks.{length-masked, part-masked, has_rows-part, is_valid-part}
use Rattle.arrow_buffers.proofs.Rows.{none_below, none_from}
use Rattle.arrow_buffers.proofs.Fixed.{rows_inside, quotient, row-part}

-- whole rows, as many bits, and good views
pub record Seen (p : Views) : Type 0 where
  pub whole : length p.views % 16 ≡ 0
  pub rows : has_rows p.validity (view_rows p.views) ≡ true
  pub good : has_bad_view p.views p.buffers p.validity ≡ false

-- of parts that are not refused the layout suits, and what is to be text is
pub record ViewSound (is_text s : Bool) (p : Views) : Type 0 where
  pub suits : s ≡ true
  pub seen : Seen p
  pub texts : (is_text && has_bad_view_text p.views p.buffers p.validity) ≡ false

four_tests : (s t u v : Bool) → (if not s then Some DataType else (if not t then Some Length else (if u then Some Utf8 else (if v then Some View else None)))) ≡ None → (s ≡ true) × (t ≡ true) × (u ≡ false) × (v ≡ false)
four_tests true true false false e = (refl, refl, refl, refl)
four_tests true true false true e = cc
four_tests true true true v e = cc
four_tests true false u v e = cc
four_tests false t u v e = cc

pub view_sound : (is_text s : Bool) (p : Views) → view_fault is_text s p ≡ None → ViewSound is_text s p
view_sound is_text s p e =
    let t = four_tests s (nat_eq (length p.views % 16) 0 && has_rows p.validity (view_rows p.views)) (is_text && has_bad_view_text p.views p.buffers p.validity) (has_bad_view p.views p.buffers p.validity) e in
    let q = and_parts (nat_eq (length p.views % 16) 0) (has_rows p.validity (view_rows p.views)) t.1 in
    record { suits = t.0; seen = record { whole = eqb-true (length p.views % 16) 0 q.0; rows = q.1; good = t.3 }; texts = t.2 }

-- the view of a row that is not null is good
pub good_row : (p : Views) (row : ℕ) → Seen p → row < view_rows p.views → is_valid p.validity row ≡ true → is_good_view p.buffers (view_at p.views row) ≡ true
unfolding has_bad_view
good_row p row s h e =
    let bad : ℕ → Bool = λ k. is_valid p.validity k && not (is_good_view p.buffers (view_at p.views k)) in
    good_of (is_valid p.validity row) (is_good_view p.buffers (view_at p.views row)) (none_below bad (view_rows p.views) s.good row h) e
  where
    good_of : (v g : Bool) → (v && not g) ≡ false → v ≡ true → g ≡ true
    good_of true true e f = refl
    good_of true false e f = cc
    good_of false g e f = cc

pub length-view_cells : (is_text : Bool) (p : Views) → Seen p → length (view_cells is_text p) ≡ view_rows p.views
length-view_cells is_text p s =
    let l = length-from_on (λ row. bytes_cell is_text (view_bytes p.buffers (view_at p.views row))) 0 (view_rows p.views) in
    length-masked p.validity (from_on (λ row. bytes_cell is_text (view_bytes p.buffers (view_at p.views row))) 0 (view_rows p.views)) (rw l s.rows) ∙ l

length-part_views : (o n : ℕ) (p : Views) → o + n ≤ view_rows p.views → length (part (16 * o) (16 * n) p.views) ≡ 16 * n
length-part_views o n p h = length-part p.views _ _ (rows_inside 16 (length p.views) o n (omega arith) h)

rows-part : (o n : ℕ) (p : Views) → o + n ≤ view_rows p.views → view_rows (part (16 * o) (16 * n) p.views) ≡ n
rows-part o n p h = quotient 16 n _ (omega arith) (length-part_views o n p h)

-- a view of a part is a view of the whole
view_at-part : (o n k : ℕ) (views : List ℕ) → k < n → view_at (part (16 * o) (16 * n) views) k ≡ view_at views (o + k)
view_at-part o n k views h = ap (view_at (part (16 * o) (16 * n) views)) (omega arith) ∙ row-part 16 o n k views h ∙ ap (view_at views) (omega arith)

pub view_cells-part : (is_text : Bool) (o n : ℕ) (p : Views) → Seen p → o + n ≤ view_rows p.views → view_cells is_text (view_part o n p) ≡ part o n (view_cells is_text p)
view_cells-part is_text o n p s h =
    let whole : ℕ → Cell = λ row. bytes_cell is_text (view_bytes p.buffers (view_at p.views row)) in
    let mine : ℕ → Cell = λ row. bytes_cell is_text (view_bytes p.buffers (view_at (part (16 * o) (16 * n) p.views) row)) in
    let l = rows-part o n p h in
    let row : (k : ℕ) → k < n → mine (0 + k) ≡ whole ((0 + o) + k) = λ k lt. ap mine (omega arith) ∙ ap (λ v. bytes_cell is_text (view_bytes p.buffers v)) (view_at-part o n k p.views lt) ∙ ap whole (omega arith) in
    let all : from_on mine 0 n ≡ part o n (from_on whole 0 (view_rows p.views)) = shift-from_on mine whole 0 (0 + o) n row ∙ part-from_on whole 0 (view_rows p.views) o n h in
    ap (λ m. masked (option_map (part o n) p.validity) (from_on mine 0 m)) l ∙ ap (masked (option_map (part o n) p.validity)) all ∙ sym (part-masked o n p.validity (from_on whole 0 (view_rows p.views)))

-- a test that fails at no valid row of the whole fails at none of a part
none-part : (o n : ℕ) (p : Views) (bad : List ℕ → Bool) → o + n ≤ view_rows p.views → some_row (λ row. is_valid p.validity row && bad (view_at p.views row)) (view_rows p.views) ≡ false
    → some_row (λ row. is_valid (option_map (part o n) p.validity) row && bad (view_at (part (16 * o) (16 * n) p.views) row)) (view_rows (part (16 * o) (16 * n) p.views)) ≡ false
none-part o n p bad h e =
    let whole : ℕ → Bool = λ row. is_valid p.validity row && bad (view_at p.views row) in
    let mine : ℕ → Bool = λ row. is_valid (option_map (part o n) p.validity) row && bad (view_at (part (16 * o) (16 * n) p.views) row) in
    let row : (k : ℕ) → k < n → mine k ≡ false = λ k lt. rw (is_valid-part o n k p.validity lt, view_at-part o n k p.views lt) (none_below whole (view_rows p.views) e (o + k) (omega arith)) in
    ap (some_row mine) (rows-part o n p h) ∙ none_from mine n row

good-part : (o n : ℕ) (p : Views) → o + n ≤ view_rows p.views → has_bad_view p.views p.buffers p.validity ≡ false → has_bad_view (part (16 * o) (16 * n) p.views) p.buffers (option_map (part o n) p.validity) ≡ false
unfolding has_bad_view
good-part o n p h e = none-part o n p (λ v. not (is_good_view p.buffers v)) h e

text-part : (o n : ℕ) (p : Views) → o + n ≤ view_rows p.views → has_bad_view_text p.views p.buffers p.validity ≡ false → has_bad_view_text (part (16 * o) (16 * n) p.views) p.buffers (option_map (part o n) p.validity) ≡ false
unfolding has_bad_view_text
text-part o n p h e = none-part o n p (is_no_text_view p.buffers) h e

texts-part : (is_text : Bool) (o n : ℕ) (p : Views) → o + n ≤ view_rows p.views → (is_text && has_bad_view_text p.views p.buffers p.validity) ≡ false → (is_text && has_bad_view_text (part (16 * o) (16 * n) p.views) p.buffers (option_map (part o n) p.validity)) ≡ false
texts-part true o n p h e = text-part o n p h e
texts-part false o n p h e = refl

-- a part of an array is sound where the whole is
pub view_fault-part : (is_text s : Bool) (o n : ℕ) (p : Views) → view_fault is_text s p ≡ None → o + n ≤ view_rows p.views → view_fault is_text s (view_part o n p) ≡ None
view_fault-part is_text s o n p e h =
    let q = view_sound is_text s p e in
    let w : nat_eq (length (part (16 * o) (16 * n) p.views) % 16) 0 ≡ true = eq-eqb (length (part (16 * o) (16 * n) p.views) % 16) 0 (rw (length-part_views o n p h) (mul-mod_right 16 n)) in
    let r : has_rows (option_map (part o n) p.validity) (view_rows (part (16 * o) (16 * n) p.views)) ≡ true = rw (rows-part o n p h) (has_rows-part o n (view_rows p.views) p.validity q.seen.rows h) in
    rw (q.suits, w, r, texts-part is_text o n p h q.texts, good-part o n p h q.seen.good) refl
