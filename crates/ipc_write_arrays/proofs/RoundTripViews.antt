-- Columns of views of byte strings and of texts mean their cells.
use Rattle.std.proofs.Common.{◌≡◌, ℕ, zero, suc, ◌+◌, ◌*◌, ◌<◌, ◌≤◌, ◌&&◌, List, [], ◌∷◌, length, take, drop, None, Bool, true, false, pos, refl, sym, ap, subst, ◌∙◌, arith, inl, inr}
use Rattle.std.specs.Prelude.{nat_le, not}
use Rattle.std.specs.Str.{is_utf8, bytes_eq}
use Rattle.std.proofs.lemmas.Bool.{le-leb, lt-leb, lt-ltb, cases_lt, cases_Bool, and_left}
use Rattle.arrow_spec.specs.declared.error.IpcError.{IpcError}
use Rattle.arrow_spec.specs.Flat.{little}
use Rattle.arrow_spec.specs.Kinds.{Kind, binary, utf8, binary_view, utf8_view, «list», extension, small, large}
use Rattle.arrow_spec.specs.Cells.{Cell}
use Rattle.arrow_spec.specs.Counts.{RecordBatch, Place, count_among, count_at, magnitude_or_0}
use Rattle.arrow_spec.specs.Arrays.{Dictionaries, buf, valid, if_valid, u32_of, view_of, view_bytes, from_on}
use Rattle.arrow_spec.specs.Faults.{all_zero, is_good_view, is_no_text_view, some_row, fixed_faults, view_count_faults, ranges_faults, data_faults, view_parts_faults, bad_view_faults, views_faults, view_text_faults}
use Rattle.arrow_spec.specs.Framing.{validity_bytes}
use Rattle.arrow_spec.proofs.Bodies.{held_bytes, held_faults, from_head}
use Rattle.arrow_spec.specs.Bodies.{BufferHeld, AreHeld}
use Rattle.arrow_types.specs.Physical.{physical_of}
use Rattle.arrow_buffers.specs.Rows.{is_valid, null_rows, bytes_cell}
use Rattle.arrow_buffers.specs.Layouts.{is_view}
use Rattle.arrow_buffers.specs.Views as held
use Rattle.arrow_buffers.specs.Views.{Views, view_rows, view_at, buffer_at, has_bad_view, has_bad_view_text, view_cells, view_fault}
use Rattle.arrow_buffers.proofs.Rows.{none_below, none_from, fine_here, null_here}
use Rattle.arrow_buffers.proofs.Views.{short_view, long_view, short_good, long_good, by_prefix, leads}
use Rattle.arrow_buffers.proofs.ViewParts.{Seen, view_sound, good_row}
use Rattle.ipc_write_laws.specs.Columns.{WrittenColumn, StandsAt, Means}
use Rattle.ipc_write_arrays.specs.Pieces.{view_pieces}
use Rattle.ipc_write_arrays.proofs.RoundTripHeads.{Headed, Shape, extended, one_column, means_by, headed, second, valid_by, cells_told}
use Rattle.ipc_write_laws.proofs.Counted.{counts_there}
use Rattle.ipc_write_arrays.proofs.RoundTripPlain.{fixed_right, whole_rows}

-- ── data buffers ──

ranges_right : (m : RecordBatch) (i : ℕ) (xs : List (List ℕ)) → AreHeld m i xs → ranges_faults m i (length xs) ≡ []
ranges_right m i [] h = refl
ranges_right m i (x ∷ xs) h = rw (held_faults m i x h.0) (ranges_right m (suc i) xs h.1)

buffer_there : (m : RecordBatch) (i n : ℕ) (xs : List (List ℕ)) → AreHeld m i xs → n < length xs → buf m (i + n) ≡ buffer_at xs n
buffer_there m i n [] h lt = absurd (omega arith)
buffer_there m i zero (x ∷ xs) h lt = ap (buf m) (let e : i + 0 ≡ i = omega arith in e) ∙ held_bytes m i x h.0
buffer_there m i (suc n) (x ∷ xs) h lt = ap (buf m) (let e : i + suc n ≡ suc i + n = omega arith in e) ∙ buffer_there m (suc i) n xs h.1 (omega arith)

-- the parts of a view array in a record batch
record Looked (x : Views) (m : RecordBatch) (p : Place) : Type 0 where
  in_it : m.order ≡ little
  head : Headed m p (view_rows x.views) x.validity
  views : BufferHeld m (p.buffer + 1) x.views
  data_held : AreHeld m (p.buffer + 2) x.buffers
  count : count_at m p.view ≡ length x.buffers
  room : p.buffer + 2 + length x.buffers ≤ length m.buffers
  counted : view_count_faults m binary_view p ≡ []

prefix_right : (m : RecordBatch) (p : Place) (view b : List ℕ) (n : ℕ) → count_at m p.view ≡ n → buf m (p.buffer + 2 + u32_of view 8) ≡ b → 12 < u32_of view 0 → u32_of view 8 < n → u32_of view 12 + u32_of view 0 ≤ length b
    → bytes_eq (take 4 (drop 4 view)) (take 4 (take (u32_of view 0) (drop (u32_of view 12) b))) ≡ true → is_good_view m p view ≡ true
unfolding is_good_view
prefix_right m p view b n count e long number inside same =
    rw (lt-leb (u32_of view 0) 12 long, count, e, lt-ltb (u32_of view 8) n number, le-leb (u32_of view 12 + u32_of view 0) (length b) inside) same

short_right : (m : RecordBatch) (p : Place) (view : List ℕ) → u32_of view 0 ≤ 12 → all_zero (drop (4 + u32_of view 0) view) ≡ true → is_good_view m p view ≡ true
unfolding is_good_view
short_right m p view h e = rw (le-leb (u32_of view 0) 12 h) e

-- no text in a row that is the same elsewhere
none_bad : (v w g h : Bool) (a b : List ℕ) → v ≡ w → g ≡ h → a ≡ b → (w && (h && not (is_utf8 b))) ≡ false → (v && (g && not (is_utf8 a))) ≡ false
none_bad v w g h a b d e f k = rw (d, e, f) k

module _ (x : Views) (m : RecordBatch) (p : Place) (l : Looked x m p) where
  -- a good view is read as good
  good_read : (view : List ℕ) → held.is_good_view x.buffers view ≡ true → is_good_view m p view ≡ true
  good_read view e =
      elim (cases_lt 12 (u32_of view 0)) [
        | inl long ↦
            let there = leads x.buffers view e long in
            let bytes : buf m (p.buffer + 2 + u32_of view 8) ≡ buffer_at x.buffers (u32_of view 8) = buffer_there m (p.buffer + 2) (u32_of view 8) x.buffers l.data_held there.number in
            prefix_right m p view (buffer_at x.buffers (u32_of view 8)) (length x.buffers) l.count bytes long there.number there.inside (sym (by_prefix x.buffers view there.number there.inside) ∙ sym (long_good x.buffers view long) ∙ e)
        | inr short ↦ short_right m p view short (sym (short_good x.buffers view short) ∙ e)
      ]

  -- and its bytes are the same
  bytes_read : (view : List ℕ) → held.is_good_view x.buffers view ≡ true → view_bytes m p view ≡ held.view_bytes x.buffers view
  bytes_read view e =
      elim (cases_lt 12 (u32_of view 0)) [
        | inl long ↦
            let there = leads x.buffers view e long in
            let bytes : buf m (p.buffer + 2 + u32_of view 8) ≡ buffer_at x.buffers (u32_of view 8) = buffer_there m (p.buffer + 2) (u32_of view 8) x.buffers l.data_held there.number in
            rw (lt-leb (u32_of view 0) 12 long) (ap (λ b. take (u32_of view 0) (drop (u32_of view 12) b)) bytes ∙ sym (long_view x.buffers view long))
        | inr short ↦ rw (le-leb (u32_of view 0) 12 short) (sym (short_view x.buffers view short))
      ]

  row_view : (row : ℕ) → view_of m p row ≡ view_at x.views row
  row_view row = ap (λ b. take 16 (drop (16 * row) b)) (held_bytes m (p.buffer + 1) x.views l.views)

  row_good : (row : ℕ) → Seen x → row < view_rows x.views → is_valid x.validity row ≡ true → is_good_view m p (view_of m p row) ≡ true
  row_good row s lt v = ap (is_good_view m p) (row_view row) ∙ good_read (view_at x.views row) (good_row x row s lt v)

  row_bytes : (row : ℕ) → Seen x → row < view_rows x.views → is_valid x.validity row ≡ true → view_bytes m p (view_of m p row) ≡ held.view_bytes x.buffers (view_at x.views row)
  row_bytes row s lt v = ap (view_bytes m p) (row_view row) ∙ bytes_read (view_at x.views row) (good_row x row s lt v)

  parts_right : Seen x → view_parts_faults m p (view_rows x.views) ≡ []
  unfolding view_parts_faults
  parts_right s =
      let rows = view_rows x.views in
      let all : 16 * rows ≡ length x.views = whole_rows 16 (length x.views) (omega arith) s.whole in
      let fixed : fixed_faults m p 16 rows ≡ [] = fixed_right m p 16 rows x.validity x.views l.head l.views (omega arith) in
      let room : nat_le (p.buffer + 2 + length x.buffers) (length m.buffers) ≡ true = le-leb _ _ l.room in
      let ranges : data_faults m p (count_at m p.view) ≡ [] = ap (data_faults m p) l.count ∙ rw (data_faults, room) (ranges_right m (p.buffer + 2) x.buffers l.data_held) in
      rw (l.counted, ranges, fixed, l.in_it) refl

  bad_right : Seen x → bad_view_faults m p (view_rows x.views) ≡ []
  bad_right s =
      let bad : ℕ → Bool = λ row. valid m p row && not (is_good_view m p (view_of m p row)) in
      let none : some_row bad (view_rows x.views) ≡ false = none_from bad (view_rows x.views) (λ row lt.
      elim (cases_Bool (is_valid x.validity row)) [
        | inl v ↦ fine_here (valid m p row) (is_good_view m p (view_of m p row)) (row_good row s lt v)
        | inr v ↦ null_here (valid m p row) (is_good_view m p (view_of m p row)) (valid_by m p (view_rows x.views) x.validity row l.head lt ∙ v)
      ]) in
      rw none refl

  views_right : Seen x → views_faults m p (view_rows x.views) ≡ []
  unfolding views_faults
  views_right s = rw (parts_right s, bad_right s) refl

  texts_right : Seen x → has_bad_view_text x.views x.buffers x.validity ≡ false → view_text_faults m p (view_rows x.views) ≡ []
  unfolding view_text_faults has_bad_view_text
  texts_right s e =
      let rows = view_rows x.views in
      let bad : ℕ → Bool = λ row. valid m p row && is_no_text_view m p (view_of m p row) in
      let there : ℕ → Bool = λ row. is_valid x.validity row && held.is_no_text_view x.buffers (view_at x.views row) in
      let none : some_row bad rows ≡ false = none_from bad rows (λ row lt.
      let valid_row : valid m p row ≡ is_valid x.validity row = valid_by m p rows x.validity row l.head lt in
      elim (cases_Bool (is_valid x.validity row)) [
        | inl v ↦
            none_bad (valid m p row) (is_valid x.validity row) (is_good_view m p (view_of m p row)) (held.is_good_view x.buffers (view_at x.views row)) (view_bytes m p (view_of m p row)) (held.view_bytes x.buffers (view_at x.views row))
            valid_row (row_good row s lt v ∙ sym (good_row x row s lt v)) (row_bytes row s lt v) (none_below there rows e row lt)
        | inr v ↦ and_left (valid m p row) (is_no_text_view m p (view_of m p row)) (valid_row ∙ v)
      ]) in
      rw (parts_right s, bad_right s, none) refl

-- ── columns ──

abbrev own_buffers : RecordBatch → Place → ℕ
own_buffers m p = 2 + count_among m.variadic p.view

-- what is wrong with such a column's buffers and views, and with its texts where it is to have some
abbrev viewed_faults : Bool → RecordBatch → Place → ℕ → List IpcError
viewed_faults true m p n = view_text_faults m p n
viewed_faults false m p n = views_faults m p n

-- the cell of a view's bytes
abbrev view_row : Bool → RecordBatch → Place → ℕ → Cell
view_row is_text m p row = if_valid m p row (bytes_cell is_text (view_bytes m p (view_of m p row)))

view_shape : (d : Dictionaries) (is_text : Bool) (k : Kind) → is_view is_text (physical_of k) ≡ true → Shape d k 1 own_buffers (viewed_faults is_text) (view_row is_text)
view_shape d false binary_view e = record { node = refl; view = refl; buffer = λ m p. refl; empty = λ m p. refl; some = λ m p n. refl; row = λ m p row. refl }
view_shape d true utf8_view e = record { node = refl; view = refl; buffer = λ m p. refl; empty = λ m p. refl; some = λ m p n. refl; row = λ m p row. refl }
view_shape d is_text (extension name metadata k) e = extended d name metadata k 1 own_buffers (viewed_faults is_text) (view_row is_text) (view_shape d is_text k e)
view_shape d is_text (binary small) e = cc
view_shape d is_text (binary large) e = cc
view_shape d is_text (utf8 small) e = cc
view_shape d is_text (utf8 large) e = cc
view_shape d is_text («list» small fs) e = cc
view_shape d is_text («list» large fs) e = cc
view_shape d is_text k e = cc

-- what a column of views is written as
abbrev view_column : Bool → Views → WrittenColumn
view_column is_text x = one_column x.kind (view_rows x.views) (null_rows x.validity) (validity_bytes x.validity ∷ x.views ∷ x.buffers) (length x.buffers ∷ []) (view_cells is_text x)

count_there : (is_text : Bool) (x : Views) (m : RecordBatch) (p : Place) → StandsAt m p (view_column is_text x) → count_at m p.view ≡ length x.buffers
count_there is_text x m p s = ap magnitude_or_0 (from_head m.variadic p.view (pos (length x.buffers)) s.views_behind s.views)

own_there : (is_text : Bool) (x : Views) (m : RecordBatch) (p : Place) → StandsAt m p (view_column is_text x) → own_buffers m p ≡ length (validity_bytes x.validity ∷ x.views ∷ x.buffers)
own_there is_text x m p s = let e : count_at m p.view ≡ length x.buffers = count_there is_text x m p s in omega arith

looked : (is_text : Bool) (x : Views) (m : RecordBatch) (p : Place) → Seen x → m.order ≡ little → StandsAt m p (view_column is_text x) → Looked x m p
looked is_text x m p seen o s =
    let next : suc (suc p.buffer) ≡ p.buffer + 2 = omega arith in
    record {
      in_it = o;
      head = headed m p x.kind (view_rows x.views) x.validity (x.views ∷ x.buffers) (length x.buffers ∷ []) (view_cells is_text x) seen.rows s;
      views = second m p x.kind (view_rows x.views) (null_rows x.validity) (validity_bytes x.validity) x.views x.buffers (length x.buffers ∷ []) (view_cells is_text x) s;
      data_held = subst (λ i. AreHeld m i x.buffers) next s.pieces.1.1;
      count = count_there is_text x m p s;
      room = omega (arith, s.room);
      counted = counts_there m p binary_view (view_column is_text x) refl s;
    }

view_read : (is_text : Bool) (x : Views) (m : RecordBatch) (p : Place) → Seen x → Looked x m p → from_on (view_row is_text m p) 0 (view_rows x.views) ≡ view_cells is_text x
view_read is_text x m p seen l =
    cells_told m p (view_rows x.views) x.validity (view_row is_text m p) (λ row. bytes_cell is_text (view_bytes m p (view_of m p row))) (λ row. bytes_cell is_text (held.view_bytes x.buffers (view_at x.views row))) l.head (λ row. refl)
    (λ row lt v. ap (bytes_cell is_text) (row_bytes x m p l row seen lt v))

viewed_right : (is_text : Bool) (x : Views) (m : RecordBatch) (p : Place) → Looked x m p → Seen x → (is_text && has_bad_view_text x.views x.buffers x.validity) ≡ false → viewed_faults is_text m p (view_rows x.views) ≡ []
viewed_right true x m p l seen e = texts_right x m p l seen e
viewed_right false x m p l seen e = views_right x m p l seen

pub views_mean : (is_text : Bool) (d : Dictionaries) (x : Views) → view_fault is_text (is_view is_text (physical_of x.kind)) x ≡ None → Means little d (view_rows x.views) (view_column is_text x)
views_mean is_text d x e =
    let sound = view_sound is_text (is_view is_text (physical_of x.kind)) x e in
    let seen = sound.seen in
    means_by d x.kind 1 own_buffers (viewed_faults is_text) (view_row is_text) little (view_rows x.views) (null_rows x.validity) (view_pieces x) (length x.buffers ∷ []) (view_cells is_text x)
    (view_shape d is_text x.kind sound.suits) refl (own_there is_text x)
    (λ m p o s few. viewed_right is_text x m p (looked is_text x m p seen o s) seen sound.texts)
    (λ m p o s. view_read is_text x m p seen (looked is_text x m p seen o s))
