-- Rows of an array without children at some numbers: their kind, how many they are, their cells, and that arrays have such parts.
use Rattle.std.proofs.Common.{◌≡◌, ◌∙◌, sym, refl, ap, subst, arith, ℕ, ◌+◌, ◌*◌, ◌%◌, ◌<◌, ◌≤◌, ◌&&◌, List, length, map, get_or, Bool, true, false, None, nat_eq, nat_lt}
use Rattle.std.specs.Prelude.{not}
use Rattle.std.specs.List.{AllByRecursion, flat_map, list_all}
use Rattle.std.specs.Option.{option_map}
use Rattle.std.specs.Str.{is_utf8}
use Rattle.std.proofs.lemmas.Bool.{and_parts, lt-ltb, eq-eqb}
use Rattle.std.proofs.lemmas.List.{length-map}
use Rattle.std.proofs.Math.Nat.{mul-mod_right}
use Rattle.arrow_spec.specs.Cells as cells
use Rattle.arrow_spec.specs.Cells.{Cell}
use Rattle.arrow_spec.specs.Arrays.{from_on}
use Rattle.arrow_spec.specs.Faults.{some_row}
use Rattle.arrow_types.specs.Physical.{physical_of}
use Rattle.arrow_buffers.specs.Layouts.{binary_size, is_boolean, is_variable_any, is_view}
use Rattle.arrow_buffers.specs.Rows.{has_rows, is_valid, bytes_cell, masked}
use Rattle.arrow_buffers.specs.Leaf.{Leaf, leaf_cells, leaf_fault, fixed_row, fixed_rows, fixed_cells, fixed_fault}
use Rattle.arrow_buffers.specs.Variable.{Variable, are_offsets, variable_rows, row_bytes, variable_cells, variable_fault, has_bad_text}
use Rattle.arrow_buffers.specs.Views.{Views, view_rows, view_at, view_bytes, view_cells, view_fault, is_good_view, is_no_text_view, has_bad_view, has_bad_view_text}
use Rattle.arrow_buffers.proofs.Sound.{leaf_sound, FixedSound, fixed_sound}
use Rattle.arrow_buffers.proofs.Fixed.{quotient}
use Rattle.arrow_buffers.proofs.VariableParts.{Spanned, variable_sound}
use Rattle.arrow_buffers.proofs.ViewParts.{Seen, view_sound}
use Rattle.arrow_arrays.specs.LeafParts.{LeafParts, nulls, bits, numbers, fixed, binary, text, binary_views, text_views, number_cell, number_size, are_numbers, leaf_kind_in, leaf_rows_in, leaf_cells_in, leaf_fault_in}
use Rattle.arrow_arrays.proofs.LeafSliced.{length-cells}
use Rattle.arrow_arrays.proofs.NumberParts.{leaf_suits}
use Rattle.array_filter.specs.Rows.{AreBelow, taken}
use Rattle.array_filter.specs.Offsets.{offsets_taken, row_length}
use Rattle.array_filter.specs.Taken.{fixed_taken, leaf_rows_taken, leaf_taken, variable_taken, views_taken}
use Rattle.array_filter.proofs.Lists.{length-taken, map-taken, passes-taken}
use Rattle.array_filter.proofs.Pieces.{length-pieces}
use Rattle.array_filter.proofs.Cells.{valid-taken, has_rows-taken, masked-taken, cells-told, replicate-taken, no_bad-taken}
use Rattle.array_filter.proofs.Between.{between-taken, between_lengths, even-piece, length-even, offsets_rise, rows-offsets, whole_rows}

pub kind-taken : (rows : List ℕ) (p : LeafParts) → leaf_kind_in (leaf_rows_taken rows p) ≡ leaf_kind_in p
kind-taken rows (nulls x) = refl
kind-taken rows p = refl

-- ── values of one width ──

values_cells : {A : Type 0} (cell : A → Cell) (rows : List ℕ) (f : Leaf A) → has_rows f.validity (length f.values) ≡ true → AreBelow (length f.values) rows → leaf_cells cell (leaf_taken rows f) ≡ taken rows (leaf_cells cell f)
values_cells cell rows f h a =
    let l : length f.values ≡ length (map cell f.values) = sym (length-map f.values cell) in
    ap (masked (option_map (taken rows) f.validity)) (map-taken cell rows f.values)
    ∙ masked-taken f.validity rows (map cell f.values) (subst (λ k. has_rows f.validity k ≡ true) l h) (subst (λ k. AreBelow k rows) l a)

pub values_fault : {A : Type 0} (s t : Bool) (rows : List ℕ) (f : Leaf A) → leaf_fault s (length f.values) f.validity ≡ None → t ≡ true → AreBelow (length f.values) rows
    → leaf_fault t (length (taken rows f.values)) (option_map (taken rows) f.validity) ≡ None
values_fault s t rows f e suits a =
    let h : has_rows (option_map (taken rows) f.validity) (length rows) ≡ true = has_rows-taken f.validity rows (length f.values) (leaf_sound s (length f.values) f.validity e) a in
    rw (suits, length-taken rows f.values a, h) refl

numbers_taken : (rows : List ℕ) (size : ℕ) (values : List (List ℕ)) → are_numbers size values ≡ true → are_numbers size (taken rows values) ≡ true
numbers_taken rows size values e =
    let wide : List ℕ → Bool = λ bytes. nat_eq (length bytes) size in
    let p = and_parts (nat_lt 0 size) (list_all wide values) e in
    rw (p.0, passes-taken wide rows values p.1) refl

-- ── byte strings of one size ──

fixed_length : (rows : List ℕ) (f : Leaf ℕ) → FixedSound f → AreBelow (fixed_rows f) rows → length (fixed_taken rows f).values ≡ binary_size f.kind * length rows
fixed_length rows f s a = length-even (binary_size f.kind) f.values rows (whole_rows (binary_size f.kind) (length f.values) rows s.sized a)

fixed_count : (rows : List ℕ) (f : Leaf ℕ) → FixedSound f → AreBelow (fixed_rows f) rows → fixed_rows (fixed_taken rows f) ≡ length rows
fixed_count rows f s a = quotient (binary_size f.kind) (length rows) _ s.sized (fixed_length rows f s a)

fixed_cells-taken : (rows : List ℕ) (f : Leaf ℕ) → FixedSound f → AreBelow (fixed_rows f) rows → fixed_cells (fixed_taken rows f) ≡ taken rows (fixed_cells f)
fixed_cells-taken rows f s a =
    let size = binary_size f.kind in
    let theirs : ℕ → Cell = λ row. cells.bytes (fixed_row size f.values row) in
    let mine : ℕ → Cell = λ row. cells.bytes (fixed_row size (flat_map (fixed_row size f.values) rows) row) in
    ap (λ m. masked (option_map (taken rows) f.validity) (from_on mine 0 m)) (fixed_count rows f s a)
    ∙ cells-told f.validity theirs mine rows (fixed_rows f) s.rows a (λ i lt. ap cells.bytes (even-piece size f.values rows i (whole_rows size (length f.values) rows s.sized a) lt))

fixed_fine : (f : Leaf ℕ) → FixedSound f → fixed_fault f ≡ None
fixed_fine f s =
    let p : nat_lt 0 (binary_size f.kind) ≡ true = lt-ltb 0 (binary_size f.kind) s.sized in
    let w : nat_eq (length f.values % binary_size f.kind) 0 ≡ true = eq-eqb _ 0 s.whole in
    rw (p, w, s.rows) refl

pub fixed_fault-taken : (rows : List ℕ) (f : Leaf ℕ) → fixed_fault f ≡ None → AreBelow (fixed_rows f) rows → fixed_fault (fixed_taken rows f) ≡ None
fixed_fault-taken rows f e a =
    let s = fixed_sound f e in
    fixed_fine (fixed_taken rows f) (record {
      sized = s.sized;
      whole = ap (λ n. n % binary_size f.kind) (fixed_length rows f s a) ∙ mul-mod_right (binary_size f.kind) (length rows);
      rows = ap (has_rows (option_map (taken rows) f.validity)) (fixed_count rows f s a) ∙ has_rows-taken f.validity rows (fixed_rows f) s.rows a;
    })

-- ── byte strings and texts between offsets ──

bytes-taken : (rows : List ℕ) (p : Variable) (i : ℕ) → Spanned p → AreBelow (variable_rows p.offsets) rows → i < length rows
    → row_bytes (offsets_taken rows p.offsets) (flat_map (row_bytes p.offsets p.values) rows) i ≡ row_bytes p.offsets p.values (get_or rows i 0)
bytes-taken rows p i s a h = between-taken p.offsets p.values rows i s.rise a h

variable_cells-taken : (is_text : Bool) (rows : List ℕ) (p : Variable) → Spanned p → AreBelow (variable_rows p.offsets) rows → variable_cells is_text (variable_taken rows p) ≡ taken rows (variable_cells is_text p)
variable_cells-taken is_text rows p s a =
    let theirs : ℕ → Cell = λ row. bytes_cell is_text (row_bytes p.offsets p.values row) in
    let mine : ℕ → Cell = λ row. bytes_cell is_text (row_bytes (offsets_taken rows p.offsets) (flat_map (row_bytes p.offsets p.values) rows) row) in
    ap (λ m. masked (option_map (taken rows) p.validity) (from_on mine 0 m)) (rows-offsets rows p.offsets)
    ∙ cells-told p.validity theirs mine rows (variable_rows p.offsets) s.rows a (λ i lt. ap (bytes_cell is_text) (bytes-taken rows p i s a lt))

text-taken : (rows : List ℕ) (p : Variable) → Spanned p → AreBelow (variable_rows p.offsets) rows → has_bad_text p.offsets p.values p.validity ≡ false
    → has_bad_text (offsets_taken rows p.offsets) (flat_map (row_bytes p.offsets p.values) rows) (option_map (taken rows) p.validity) ≡ false
unfolding has_bad_text
text-taken rows p s a e =
    let theirs : ℕ → Bool = λ row. is_valid p.validity row && not (is_utf8 (row_bytes p.offsets p.values row)) in
    let mine : ℕ → Bool = λ row. is_valid (option_map (taken rows) p.validity) row && not (is_utf8 (row_bytes (offsets_taken rows p.offsets) (flat_map (row_bytes p.offsets p.values) rows) row)) in
    let same : (i : ℕ) → i < length rows → mine i ≡ theirs (get_or rows i 0) = λ i lt. rw (valid-taken p.validity rows (variable_rows p.offsets) i s.rows a lt, bytes-taken rows p i s a lt) refl in
    ap (some_row mine) (rows-offsets rows p.offsets) ∙ no_bad-taken mine theirs rows (variable_rows p.offsets) a same e

texts-taken : (is_text : Bool) (rows : List ℕ) (p : Variable) → Spanned p → AreBelow (variable_rows p.offsets) rows → (is_text && has_bad_text p.offsets p.values p.validity) ≡ false
    → (is_text && has_bad_text (offsets_taken rows p.offsets) (flat_map (row_bytes p.offsets p.values) rows) (option_map (taken rows) p.validity)) ≡ false
texts-taken true rows p s a e = text-taken rows p s a e
texts-taken false rows p s a e = refl

pub variable_fault-taken : (is_text s : Bool) (rows : List ℕ) (p : Variable) → variable_fault is_text s p ≡ None → AreBelow (variable_rows p.offsets) rows → variable_fault is_text s (variable_taken rows p) ≡ None
variable_fault-taken is_text s rows p e a =
    let q = variable_sound is_text s p e in
    let r : has_rows (option_map (taken rows) p.validity) (variable_rows (offsets_taken rows p.offsets)) ≡ true = rw (rows-offsets rows p.offsets) (has_rows-taken p.validity rows (variable_rows p.offsets) q.spanned.rows a) in
    let long = length-pieces (row_bytes p.offsets p.values) (row_length p.offsets) rows (between_lengths p.offsets p.values rows q.spanned.rise a) in
    let up : are_offsets (offsets_taken rows p.offsets) (length (flat_map (row_bytes p.offsets p.values) rows)) ≡ true = offsets_rise (row_length p.offsets) rows (length (flat_map (row_bytes p.offsets p.values) rows)) (omega (arith, long)) in
    rw (q.suits, r, up, texts-taken is_text rows p q.spanned a q.texts) refl

-- ── views ──

inside : (rows : List ℕ) (p : Views) → AreBelow (view_rows p.views) rows → AllByRecursion (λ row. 16 * row + 16 ≤ length p.views) rows
inside rows p a = whole_rows 16 (length p.views) rows (omega arith) a

views_length : (rows : List ℕ) (p : Views) → AreBelow (view_rows p.views) rows → length (flat_map (view_at p.views) rows) ≡ 16 * length rows
views_length rows p a = length-even 16 p.views rows (inside rows p a)

views_count : (rows : List ℕ) (p : Views) → AreBelow (view_rows p.views) rows → view_rows (flat_map (view_at p.views) rows) ≡ length rows
views_count rows p a = quotient 16 (length rows) _ (omega arith) (views_length rows p a)

view-taken : (rows : List ℕ) (p : Views) (i : ℕ) → AreBelow (view_rows p.views) rows → i < length rows → view_at (flat_map (view_at p.views) rows) i ≡ view_at p.views (get_or rows i 0)
view-taken rows p i a h = even-piece 16 p.views rows i (inside rows p a) h

view_cells-taken : (is_text : Bool) (rows : List ℕ) (p : Views) → Seen p → AreBelow (view_rows p.views) rows → view_cells is_text (views_taken rows p) ≡ taken rows (view_cells is_text p)
view_cells-taken is_text rows p s a =
    let theirs : ℕ → Cell = λ row. bytes_cell is_text (view_bytes p.buffers (view_at p.views row)) in
    let mine : ℕ → Cell = λ row. bytes_cell is_text (view_bytes p.buffers (view_at (flat_map (view_at p.views) rows) row)) in
    ap (λ m. masked (option_map (taken rows) p.validity) (from_on mine 0 m)) (views_count rows p a)
    ∙ cells-told p.validity theirs mine rows (view_rows p.views) s.rows a (λ i lt. ap (λ v. bytes_cell is_text (view_bytes p.buffers v)) (view-taken rows p i a lt))

no_bad_view : (rows : List ℕ) (p : Views) (bad : List ℕ → Bool) → Seen p → AreBelow (view_rows p.views) rows → some_row (λ row. is_valid p.validity row && bad (view_at p.views row)) (view_rows p.views) ≡ false
    → some_row (λ row. is_valid (option_map (taken rows) p.validity) row && bad (view_at (flat_map (view_at p.views) rows) row)) (view_rows (flat_map (view_at p.views) rows)) ≡ false
no_bad_view rows p bad s a e =
    let theirs : ℕ → Bool = λ row. is_valid p.validity row && bad (view_at p.views row) in
    let mine : ℕ → Bool = λ row. is_valid (option_map (taken rows) p.validity) row && bad (view_at (flat_map (view_at p.views) rows) row) in
    let same : (i : ℕ) → i < length rows → mine i ≡ theirs (get_or rows i 0) = λ i lt. rw (valid-taken p.validity rows (view_rows p.views) i s.rows a lt, view-taken rows p i a lt) refl in
    ap (some_row mine) (views_count rows p a) ∙ no_bad-taken mine theirs rows (view_rows p.views) a same e

good-taken : (rows : List ℕ) (p : Views) → Seen p → AreBelow (view_rows p.views) rows → has_bad_view (flat_map (view_at p.views) rows) p.buffers (option_map (taken rows) p.validity) ≡ false
unfolding has_bad_view
good-taken rows p s a = no_bad_view rows p (λ v. not (is_good_view p.buffers v)) s a s.good

view_texts-taken : (is_text : Bool) (rows : List ℕ) (p : Views) → Seen p → AreBelow (view_rows p.views) rows → (is_text && has_bad_view_text p.views p.buffers p.validity) ≡ false
    → (is_text && has_bad_view_text (flat_map (view_at p.views) rows) p.buffers (option_map (taken rows) p.validity)) ≡ false
unfolding has_bad_view_text
view_texts-taken true rows p s a e = no_bad_view rows p (is_no_text_view p.buffers) s a e
view_texts-taken false rows p s a e = refl

pub view_fault-taken : (is_text s : Bool) (rows : List ℕ) (p : Views) → view_fault is_text s p ≡ None → AreBelow (view_rows p.views) rows → view_fault is_text s (views_taken rows p) ≡ None
view_fault-taken is_text s rows p e a =
    let q = view_sound is_text s p e in
    let w : nat_eq (length (flat_map (view_at p.views) rows) % 16) 0 ≡ true = eq-eqb (length (flat_map (view_at p.views) rows) % 16) 0 (rw (views_length rows p a) (mul-mod_right 16 (length rows))) in
    let r : has_rows (option_map (taken rows) p.validity) (view_rows (flat_map (view_at p.views) rows)) ≡ true = rw (views_count rows p a) (has_rows-taken p.validity rows (view_rows p.views) q.seen.rows a) in
    rw (q.suits, w, r, view_texts-taken is_text rows p q.seen a q.texts, good-taken rows p q.seen a) refl

-- ── all layouts ──

pub cells-taken : (rows : List ℕ) (p : LeafParts) → leaf_fault_in p ≡ None → AreBelow (leaf_rows_in p) rows → leaf_cells_in (leaf_rows_taken rows p) ≡ taken rows (leaf_cells_in p)
cells-taken rows (nulls x) e a = replicate-taken rows x.rows cells.null a
cells-taken rows (bits f) e a = values_cells cells.bool rows f (leaf_sound (is_boolean (physical_of f.kind)) (length f.values) f.validity e) a
cells-taken rows (numbers f) e a = values_cells (number_cell f.kind) rows f (leaf_sound (are_numbers (number_size (physical_of f.kind)) f.values) (length f.values) f.validity e) a
cells-taken rows (fixed f) e a = fixed_cells-taken rows f (fixed_sound f e) a
cells-taken rows (binary p) e a = variable_cells-taken false rows p (variable_sound false (is_variable_any false (physical_of p.kind)) p e).spanned a
cells-taken rows (text p) e a = variable_cells-taken true rows p (variable_sound true (is_variable_any true (physical_of p.kind)) p e).spanned a
cells-taken rows (binary_views p) e a = view_cells-taken false rows p (view_sound false (is_view false (physical_of p.kind)) p e).seen a
cells-taken rows (text_views p) e a = view_cells-taken true rows p (view_sound true (is_view true (physical_of p.kind)) p e).seen a

pub fault-taken : (rows : List ℕ) (p : LeafParts) → leaf_fault_in p ≡ None → AreBelow (leaf_rows_in p) rows → leaf_fault_in (leaf_rows_taken rows p) ≡ None
fault-taken rows (nulls x) e a = e
fault-taken rows (bits f) e a =
    let s = is_boolean (physical_of f.kind) in
    values_fault s s rows f e (leaf_suits s (length f.values) f.validity e) a
fault-taken rows (numbers f) e a =
    let size = number_size (physical_of f.kind) in
    let s = are_numbers size f.values in
    values_fault s (are_numbers size (taken rows f.values)) rows f e (numbers_taken rows size f.values (leaf_suits s (length f.values) f.validity e)) a
fault-taken rows (fixed f) e a = fixed_fault-taken rows f e a
fault-taken rows (binary p) e a = variable_fault-taken false (is_variable_any false (physical_of p.kind)) rows p e a
fault-taken rows (text p) e a = variable_fault-taken true (is_variable_any true (physical_of p.kind)) rows p e a
fault-taken rows (binary_views p) e a = view_fault-taken false (is_view false (physical_of p.kind)) rows p e a
fault-taken rows (text_views p) e a = view_fault-taken true (is_view true (physical_of p.kind)) rows p e a

pub rows-taken : (rows : List ℕ) (p : LeafParts) → leaf_fault_in p ≡ None → AreBelow (leaf_rows_in p) rows → leaf_rows_in (leaf_rows_taken rows p) ≡ length rows
rows-taken rows p e a =
    let l : leaf_rows_in p ≡ length (leaf_cells_in p) = sym (length-cells p e) in
    sym (length-cells (leaf_rows_taken rows p) (fault-taken rows p e a)) ∙ ap length (cells-taken rows p e a) ∙ length-taken rows (leaf_cells_in p) (subst (λ k. AreBelow k rows) l a)
