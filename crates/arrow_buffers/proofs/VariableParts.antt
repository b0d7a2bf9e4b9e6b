-- Arrays between offsets: what holds of parts that are not refused, and a part of the rows.
use Rattle.std.proofs.Common.{◌≡◌, ℕ, ◌+◌, ◌≤◌, ◌<◌, ◌&&◌, List, Bool, true, false, Option, Some, None, ℤ, length, refl, sym, ap, ◌∙◌, arith}
use Rattle.std.specs.Prelude.{not, if◌then◌else◌}
use Rattle.std.specs.Str.{is_utf8}
use Rattle.std.specs.Option.{option_map}
use Rattle.arrow_spec.specs.Cells.{Cell}
use Rattle.arrow_spec.specs.Arrays.{from_on}
use Rattle.arrow_spec.specs.Faults.{some_row}
use Rattle.arrow_buffers.specs.declared.error.ArrayError.TheVariants.{DataType, Length, Offsets, Utf8}
use Rattle.arrow_buffers.specs.Rows.{part, has_rows, is_valid, bytes_cell, masked}
use Rattle.arrow_buffers.specs.Variable.{Variable, variable_rows, row_bytes, are_offsets, has_bad_text, variable_cells, variable_part, variable_fault}
use Rattle.arrow_buffers.proofs.Parts.{length-part, length-from_on, part-from_on, shift-from_on}
use Rattle.arrow_buffers.proofs.Masks.{length-masked, part-masked, has_rows-part, is_valid-part}
use Rattle.arrow_buffers.proofs.Rows.{none_below, none_from, fine_here}
use Rattle.arrow_buffers.proofs.Rising.{some_offset, are_offsets-part, row_bytes-part}

-- as many bits as rows, and good offsets
pub record Spanned (p : Variable) : Type 0 where
  pub rows : has_rows p.validity (variable_rows p.offsets) ≡ true
  pub rise : are_offsets p.offsets (length p.values) ≡ true

-- of parts that are not refused the layout suits, and what is to be text is
pub record VariableSound (is_text s : Bool) (p : Variable) : Type 0 where
  pub suits : s ≡ true
  pub spanned : Spanned p
  pub texts : (is_text && has_bad_text p.offsets p.values p.validity) ≡ false

four_tests : (s t u v : Bool) → (if not s then Some DataType else (if not t then Some Length else (if not u then Some Offsets else (if v then Some Utf8 else None)))) ≡ None → (s ≡ true) × (t ≡ true) × (u ≡ true) × (v ≡ false)
four_tests true true true false e = (refl, refl, refl, refl)
four_tests true true true true e = cc
four_tests true true false v e = cc
four_tests true false u v e = cc
four_tests false t u v e = cc

pub variable_sound : (is_text s : Bool) (p : Variable) → variable_fault is_text s p ≡ None → VariableSound is_text s p
variable_sound is_text s p e =
    let t = four_tests s (has_rows p.validity (variable_rows p.offsets)) (are_offsets p.offsets (length p.values)) (is_text && has_bad_text p.offsets p.values p.validity) e in
    record { suits = t.0; spanned = record { rows = t.1; rise = t.2 }; texts = t.3 }

pub length-variable_cells : (is_text : Bool) (p : Variable) → Spanned p → length (variable_cells is_text p) ≡ variable_rows p.offsets
length-variable_cells is_text p s =
    let l = length-from_on (λ row. bytes_cell is_text (row_bytes p.offsets p.values row)) 0 (variable_rows p.offsets) in
    length-masked p.validity (from_on (λ row. bytes_cell is_text (row_bytes p.offsets p.values row)) 0 (variable_rows p.offsets)) (rw l s.rows) ∙ l

rows-part : (o n : ℕ) (p : Variable) → Spanned p → o + n ≤ variable_rows p.offsets → variable_rows (part o (n + 1) p.offsets) ≡ n
rows-part o n p s h =
    let one = some_offset p.offsets (length p.values) s.rise in
    let l = length-part p.offsets o (n + 1) (omega arith) in
    omega (arith, l)

pub variable_cells-part : (is_text : Bool) (o n : ℕ) (p : Variable) → Spanned p → o + n ≤ variable_rows p.offsets → variable_cells is_text (variable_part o n p) ≡ part o n (variable_cells is_text p)
variable_cells-part is_text o n p s h =
    let whole : ℕ → Cell = λ row. bytes_cell is_text (row_bytes p.offsets p.values row) in
    let mine : ℕ → Cell = λ row. bytes_cell is_text (row_bytes (part o (n + 1) p.offsets) p.values row) in
    let l = rows-part o n p s h in
    let row : (k : ℕ) → k < n → mine (0 + k) ≡ whole ((0 + o) + k) = λ k lt. ap mine (omega arith) ∙ ap (bytes_cell is_text) (row_bytes-part o n k p.offsets p.values lt) ∙ ap whole (omega arith) in
    let all : from_on mine 0 n ≡ part o n (from_on whole 0 (variable_rows p.offsets)) = shift-from_on mine whole 0 (0 + o) n row ∙ part-from_on whole 0 (variable_rows p.offsets) o n h in
    ap (λ m. masked (option_map (part o n) p.validity) (from_on mine 0 m)) l ∙ ap (masked (option_map (part o n) p.validity)) all ∙ sym (part-masked o n p.validity (from_on whole 0 (variable_rows p.offsets)))

spanned-part : (o n : ℕ) (p : Variable) → Spanned p → o + n ≤ variable_rows p.offsets → Spanned (variable_part o n p)
spanned-part o n p s h =
    let one = some_offset p.offsets (length p.values) s.rise in
    record {
      rows = rw (rows-part o n p s h) (has_rows-part o n (variable_rows p.offsets) p.validity s.rows h);
      rise = are_offsets-part o n (length p.values) p.offsets s.rise (omega arith);
    }

text-part : (o n : ℕ) (p : Variable) → Spanned p → o + n ≤ variable_rows p.offsets → has_bad_text p.offsets p.values p.validity ≡ false → has_bad_text (part o (n + 1) p.offsets) p.values (option_map (part o n) p.validity) ≡ false
unfolding has_bad_text
text-part o n p s h e =
    let bad : ℕ → Bool = λ row. is_valid p.validity row && not (is_utf8 (row_bytes p.offsets p.values row)) in
    let mine : ℕ → Bool = λ row. is_valid (option_map (part o n) p.validity) row && not (is_utf8 (row_bytes (part o (n + 1) p.offsets) p.values row)) in
    let row : (k : ℕ) → k < n → mine k ≡ false = λ k lt. rw (is_valid-part o n k p.validity lt, row_bytes-part o n k p.offsets p.values lt) (none_below bad (variable_rows p.offsets) e (o + k) (omega arith)) in
    ap (some_row mine) (rows-part o n p s h) ∙ none_from mine n row

texts-part : (is_text : Bool) (o n : ℕ) (p : Variable) → Spanned p → o + n ≤ variable_rows p.offsets → (is_text && has_bad_text p.offsets p.values p.validity) ≡ false
    → (is_text && has_bad_text (part o (n + 1) p.offsets) p.values (option_map (part o n) p.validity)) ≡ false
texts-part true o n p s h e = text-part o n p s h e
texts-part false o n p s h e = refl

-- a part of an array is sound where the whole is
pub variable_fault-part : (is_text s : Bool) (o n : ℕ) (p : Variable) → variable_fault is_text s p ≡ None → o + n ≤ variable_rows p.offsets → variable_fault is_text s (variable_part o n p) ≡ None
variable_fault-part is_text s o n p e h =
    let whole = variable_sound is_text s p e in
    let r = spanned-part o n p whole.spanned h in
    rw (whole.suits, r.rows, r.rise, texts-part is_text o n p whole.spanned h whole.texts) refl

-- where every row is text no row is bad
pub all_texts : (offsets : List ℤ) (values : List ℕ) (v : Option (List Bool)) → ((row : ℕ) → row < variable_rows offsets → is_utf8 (row_bytes offsets values row) ≡ true) → has_bad_text offsets values v ≡ false
unfolding has_bad_text
all_texts offsets values v h = none_from (λ row. is_valid v row && not (is_utf8 (row_bytes offsets values row))) (variable_rows offsets) (λ row l. fine_here (is_valid v row) (is_utf8 (row_bytes offsets values row)) (h row l))
