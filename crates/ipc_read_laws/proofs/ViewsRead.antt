-- Views that are read, and the buffers that they lead to.
use Rattle.std.proofs.Common.{◌≡◌, ℕ, zero, suc, ◌+◌, ◌*◌, ◌<◌, ◌≤◌, ◌/◌, List, [], Bool, true, false, length, take, drop, cond, map, nat_le, nat_lt, not, ◌&&◌, refl, sym, ap, ◌∙◌, arith, inl, inr}
use Rattle.std.specs.Str.{is_utf8, bytes_eq}
use Rattle.std.proofs.lemmas.Bool.{le-ltb, ltb-true, cases_lt, and_parts}
use Rattle.arrow_spec.specs.Counts.{RecordBatch, Place, count_at}
use Rattle.arrow_spec.specs.Arrays as spec
use Rattle.arrow_spec.specs.Faults as refused
use Rattle.arrow_spec.specs.Arrays.{buf, valid, from_on, view_of, u32_of}
use Rattle.arrow_spec.specs.Faults.{range_faults, ranges_faults, data_faults, some_row, some_valid_row, all_zero}
use Rattle.arrow_spec.specs.Sent.{lengths_on}
use Rattle.arrow_spec.proofs.Fewer.{none_first, none_second}
use Rattle.arrow_buffers.specs.Rows.{is_valid}
use Rattle.arrow_buffers.specs.Leaf.{fixed_row}
use Rattle.arrow_buffers.specs.Views.{view_at, buffer_at, short_bytes, long_bytes, view_bytes, leads_right, is_good_view, is_no_text_view, has_bad_view, has_bad_view_text}
use Rattle.arrow_buffers.proofs.Parts.{length-from_on, part-part}
use Rattle.arrow_buffers.proofs.Fixed.{quotient}
use Rattle.std.proofs.lemmas.List.{length-take-le}
use Rattle.ipc_read_laws.specs.PartsRead.{bytes_of_rows, validity_read}
use Rattle.ipc_read_laws.proofs.Buffers.{length-buf, get-told, some_row-same}
use Rattle.ipc_read_laws.proofs.Validities.{valid-read}
use Rattle.ipc_read_laws.proofs.NumbersBack.{item_inside}

-- ── bytes of rows ──

-- there are as many as the rows take
pub length-rows : (m : RecordBatch) (size i rows : ℕ) → size * rows ≤ length (buf m i) → length (bytes_of_rows m size i rows) ≡ size * rows
length-rows m size i zero h = omega arith
length-rows m size i (suc n) h = length-take-le (size * suc n) (buf m i) h

-- and so many rows
pub count-rows : (m : RecordBatch) (size i rows : ℕ) → 0 < size → size * rows ≤ length (buf m i) → length (bytes_of_rows m size i rows) / size ≡ rows
count-rows m size i rows above h = quotient size rows (length (bytes_of_rows m size i rows)) above (length-rows m size i rows h)

-- a row's bytes are those of the buffer
pub row-of_rows : (m : RecordBatch) (size i rows row : ℕ) → row < rows → fixed_row size (bytes_of_rows m size i rows) row ≡ take size (drop (size * row) (buf m i))
row-of_rows m size i zero row h = absurd (omega (arith, h))
row-of_rows m size i (suc n) row h =
    let inside : size * row + size ≤ size * suc n = item_inside size row (suc n) (size * suc n) h (omega arith) in
    sym (part-part (buf m i) 0 (size * suc n) (size * row) size inside) ∙ ap (λ k. take size (drop k (buf m i))) (omega arith)

-- ── buffers ──

-- the buffers that a count says
abbrev pub buffers_told : RecordBatch → Place → List (List ℕ)
buffers_told m p = from_on (buf m) (p.buffer + 2) (count_at m p.view)

pub buffer-told : (m : RecordBatch) (p : Place) (number : ℕ) → number < count_at m p.view → buffer_at (buffers_told m p) number ≡ buf m (p.buffer + 2 + number)
buffer-told m p number h = get-told (buf m) (p.buffer + 2) (count_at m p.view) number [] h

pub count-buffers : (m : RecordBatch) (p : Place) → length (buffers_told m p) ≡ count_at m p.view
count-buffers m p = length-from_on (buf m) (p.buffer + 2) (count_at m p.view)

ranges_lengths : (m : RecordBatch) (i n : ℕ) → ranges_faults m i n ≡ [] → map length (from_on (buf m) i n) ≡ lengths_on m i n
ranges_lengths m i zero h = refl
ranges_lengths m i (suc n) h = rw (length-buf m i (none_first _ _ h), ranges_lengths m (suc i) n (none_second (range_faults m i) _ h)) refl

data_if : (b : Bool) (m : RecordBatch) (p : Place) (n : ℕ) → nat_le (p.buffer + 2 + n) (length m.buffers) ≡ b → data_faults m p n ≡ [] → ranges_faults m (p.buffer + 2) n ≡ []
data_if true m p n e h = rw (e, data_faults) at h
data_if false m p n e h = let k = rw (e, data_faults) at h in cc

-- they are as long as is stated
pub lengths-buffers : (m : RecordBatch) (p : Place) → data_faults m p (count_at m p.view) ≡ [] → map length (buffers_told m p) ≡ lengths_on m (p.buffer + 2) (count_at m p.view)
lengths-buffers m p h = ranges_lengths m (p.buffer + 2) (count_at m p.view) (data_if (nat_le (p.buffer + 2 + count_at m p.view) (length m.buffers)) m p (count_at m p.view) refl h)

-- ── views ──

-- the bytes of a view that leads to a buffer of the count
pub bytes-known : (m : RecordBatch) (p : Place) (view : List ℕ) → u32_of view 8 < count_at m p.view → view_bytes (buffers_told m p) view ≡ spec.view_bytes m p view
unfolding view_bytes
bytes-known m p view h = rw (buffer-told m p (u32_of view 8) h) refl

-- a view is good, in what was read as in the record batch
pub good-view : (m : RecordBatch) (p : Place) (view : List ℕ) → is_good_view (buffers_told m p) view ≡ refused.is_good_view m p view
unfolding is_good_view leads_right refused.is_good_view
good-view m p view =
    elim (cases_lt (u32_of view 8) (count_at m p.view)) [
      | inl known ↦ by_length (nat_le (u32_of view 0) 12) known
      | inr none ↦ rw (count-buffers m p, le-ltb (u32_of view 8) (count_at m p.view) none) refl
    ]
  where
    by_length : (short : Bool) → u32_of view 8 < count_at m p.view
        → cond short (all_zero (drop (4 + u32_of view 0) view)) (nat_lt (u32_of view 8) (length (buffers_told m p)) && nat_le (u32_of view 12 + u32_of view 0) (length (buffer_at (buffers_told m p) (u32_of view 8))) && bytes_eq (take 4 (drop 4 view)) (take 4 (long_bytes (buffers_told m p) view)))
        ≡ cond short (all_zero (drop (4 + u32_of view 0) view)) (nat_lt (u32_of view 8) (count_at m p.view) && nat_le (u32_of view 12 + u32_of view 0) (length (buf m (p.buffer + 2 + u32_of view 8))) && bytes_eq (take 4 (drop 4 view)) (take 4 (cond short (take (u32_of view 0) (drop 4 view)) (take (u32_of view 0) (drop (u32_of view 12) (buf m (p.buffer + 2 + u32_of view 8)))))))
    by_length true known = refl
    by_length false known = rw (count-buffers m p, buffer-told m p (u32_of view 8) known) refl

-- the bytes of a good view
pub bytes-view : (m : RecordBatch) (p : Place) (view : List ℕ) → refused.is_good_view m p view ≡ true → view_bytes (buffers_told m p) view ≡ spec.view_bytes m p view
unfolding view_bytes refused.is_good_view
bytes-view m p view good = by_length (nat_le (u32_of view 0) 12) good
  where
    by_length : (short : Bool)
        → cond short (all_zero (drop (4 + u32_of view 0) view)) (nat_lt (u32_of view 8) (count_at m p.view) && nat_le (u32_of view 12 + u32_of view 0) (length (buf m (p.buffer + 2 + u32_of view 8))) && bytes_eq (take 4 (drop 4 view)) (take 4 (cond short (take (u32_of view 0) (drop 4 view)) (take (u32_of view 0) (drop (u32_of view 12) (buf m (p.buffer + 2 + u32_of view 8))))))) ≡ true
        → cond short (short_bytes view) (long_bytes (buffers_told m p) view) ≡ cond short (take (u32_of view 0) (drop 4 view)) (take (u32_of view 0) (drop (u32_of view 12) (buf m (p.buffer + 2 + u32_of view 8))))
    by_length true g = refl
    by_length false g =
        let a = and_parts (nat_lt (u32_of view 8) (count_at m p.view) && nat_le (u32_of view 12 + u32_of view 0) (length (buf m (p.buffer + 2 + u32_of view 8)))) _ g in
        let b = and_parts (nat_lt (u32_of view 8) (count_at m p.view)) _ a.0 in
        rw (buffer-told m p (u32_of view 8) (ltb-true (u32_of view 8) (count_at m p.view) b.0)) refl

no_text_if : (g u v : Bool) → (g ≡ true → u ≡ v) → (g && not u) ≡ (g && not v)
no_text_if true u v h = ap not (h refl)
no_text_if false u v h = refl

-- a view is good and no text, in what was read as in the record batch
pub no_text-view : (m : RecordBatch) (p : Place) (view : List ℕ) → is_no_text_view (buffers_told m p) view ≡ refused.is_no_text_view m p view
no_text-view m p view =
    ap (λ g. g && not (is_utf8 (view_bytes (buffers_told m p) view))) (good-view m p view)
    ∙ no_text_if (refused.is_good_view m p view) (is_utf8 (view_bytes (buffers_told m p) view)) (is_utf8 (spec.view_bytes m p view)) (λ g. ap is_utf8 (bytes-view m p view g))

-- ── rows of views ──

-- the views of so many rows
abbrev pub views_told : RecordBatch → Place → ℕ → List ℕ
views_told m p rows = bytes_of_rows m 16 (p.buffer + 1) rows

pub view-told : (m : RecordBatch) (p : Place) (rows row : ℕ) → row < rows → view_at (views_told m p rows) row ≡ view_of m p row
view-told m p rows row h = row-of_rows m 16 (p.buffer + 1) rows row h

pub bad_views-read : (m : RecordBatch) (p : Place) (rows : ℕ) → 16 * rows ≤ length (buf m (p.buffer + 1)) → has_bad_view (views_told m p rows) (buffers_told m p) (validity_read m p rows) ≡ some_valid_row m p (λ row. not (refused.is_good_view m p (view_of m p row))) rows
unfolding has_bad_view
bad_views-read m p rows h =
    let mine : ℕ → Bool = λ row. is_valid (validity_read m p rows) row && not (is_good_view (buffers_told m p) (view_at (views_told m p rows) row)) in
    let told : ℕ → Bool = λ row. valid m p row && not (refused.is_good_view m p (view_of m p row)) in
    ap (some_row mine) (count-rows m 16 (p.buffer + 1) rows (omega arith) h)
    ∙ some_row-same mine told rows (λ row l. rw (valid-read m p rows row l, view-told m p rows row l, good-view m p (view_of m p row)) refl)

pub view_texts-read : (m : RecordBatch) (p : Place) (rows : ℕ) → 16 * rows ≤ length (buf m (p.buffer + 1)) → has_bad_view_text (views_told m p rows) (buffers_told m p) (validity_read m p rows) ≡ some_valid_row m p (λ row. refused.is_no_text_view m p (view_of m p row)) rows
unfolding has_bad_view_text
view_texts-read m p rows h =
    let mine : ℕ → Bool = λ row. is_valid (validity_read m p rows) row && is_no_text_view (buffers_told m p) (view_at (views_told m p rows) row) in
    let told : ℕ → Bool = λ row. valid m p row && refused.is_no_text_view m p (view_of m p row) in
    ap (some_row mine) (count-rows m 16 (p.buffer + 1) rows (omega arith) h)
    ∙ some_row-same mine told rows (λ row l. both _ _ _ _ (valid-read m p rows row l) (ap (is_no_text_view (buffers_told m p)) (view-told m p rows row l) ∙ no_text-view m p (view_of m p row)))
  where
    both : (a b c d : Bool) → a ≡ b → c ≡ d → (a && c) ≡ (b && d)
    both a b c d e f = rw (e, f) refl
