-- What is read of an array depends on the buffers that are looked at: the same batch over another body of the same length.
use Rattle.std.proofs.Common.{◌≡◌, ℕ, zero, suc, ◌+◌, ◌-◌, ◌*◌, ◌<◌, ◌≤◌, List, [], ◌∷◌, ◌++◌, length, take, drop, Option, Some, None, Bool, true, false, refl, ◌∙◌, ap, arith, not, ◌&&◌, ◌||◌, cond, ◌⊎◌, inl, inr}
use Rattle.std.specs.Prelude.{nat_le, nat_lt, slice_get, ℤ, pos}
use Rattle.std.specs.List.{AllByRecursion}
use Rattle.std.specs.Int.{Width, byte_len, w32, w64, w8, w128, cast_signed}
use Rattle.std.specs.Str.{is_utf8, bytes_eq}
use Rattle.std.proofs.lemmas.Bool.{ltb-true, and_parts}
use Rattle.arrow_spec.specs.declared.error.IpcError.{IpcError}
use Rattle.arrow_spec.specs.declared.error.IpcError.TheVariants.{OutOfSpec}
use Rattle.arrow_spec.specs.declared.error.OutOfSpecKind.TheVariants as kinds
use Rattle.arrow_spec.specs.declared.types.UnionMode.{UnionMode}
use Rattle.arrow_spec.specs.declared.types.UnionMode.TheVariants.{Dense, Sparse}
use Rattle.arrow_spec.specs.declared.types.IntervalUnit.TheVariants.{YearMonth, DayTime, MonthDayNano}
use Rattle.arrow_spec.specs.declared.types.IntegerType.{IntegerType}
use Rattle.arrow_spec.specs.Flat.{num}
use Rattle.arrow_spec.specs.Kinds.{Kind, Fields, none, field, width, null, boolean, integer, float, date32, date64, time32, time64, timestamp, duration, interval, decimal, decimal256, binary, utf8, binary_view, utf8_view, fixed_size_binary, «list», fixed_size_list, struct, map as map_of, union, dictionary, extension, Offsets, small}
use Rattle.arrow_spec.specs.Counts.{RecordBatch, Place, magnitude, is_negative, inside, after, union_buffers, count_at}
use Rattle.arrow_spec.specs.Cells as cells
use Rattle.arrow_spec.specs.Cells.{Cell, cells_of}
use Rattle.arrow_spec.specs.Arrays.{Dictionaries, buf, bit, or_0, valid, has_nulls, range_of, offset_width, offset, unsigned_in, signed_in, integer_in, is_unsigned, row_bytes, u32_of, view_of, view_bytes, integer_width, found, types_buffer, id_place, node_of, if_valid, keyed, from_on, part_of_row, number_in}
use Rattle.arrow_spec.specs.ArrayCells.{cell, cell_in, row_of}
use Rattle.arrow_spec.specs.Faults.{cause, if_sound, some_row, some_valid_row, node_faults, range_causes, range_faults, bitmap_faults, validity_faults, numbers_faults, fixed_faults, offsets_buffer_faults, offsets_faults, bytes_faults, utf8_faults, is_good_view, ranges_faults, data_faults, view_parts_faults, bad_view_faults, views_faults, is_no_text_view, view_text_faults, key_faults, is_no_id, place_in, end_of, is_bad_row, dense_buffer_faults, dense_faults, union_faults, flat_faults, array_faults, child_faults, view_count_faults}
use Rattle.arrow_spec.specs.Needed.{looked_at, looked_at_in, validity_looked_at, union_looked_at, numbers_from}
use Rattle.arrow_spec.proofs.Fewer.{dense_row, fixed_row, row_offset, none_first, none_second, sound_second, cause-none, some_row-none}

-- the same tables over another body
abbrev pub with_body : RecordBatch → List ℕ → RecordBatch
with_body m b = record { order = m.order; version = m.version; nodes = m.nodes; buffers = m.buffers; variadic = m.variadic; body = b }

-- the i-th buffer is the same
abbrev pub IsSame : RecordBatch → List ℕ → ℕ → Type 0
IsSame m b i = buf (with_body m b) i ≡ buf m i

-- each of some buffers is the same
abbrev pub AreSame : RecordBatch → List ℕ → List ℕ → Type 0
AreSame m b is = AllByRecursion (λ i. IsSame m b i) is

same_first : (m : RecordBatch) (b xs ys : List ℕ) → AreSame m b (xs ++ ys) → AreSame m b xs
same_first m b [] ys h = tt
same_first m b (x ∷ xs) ys h = (h.0, same_first m b xs ys h.1)

same_second : (m : RecordBatch) (b xs ys : List ℕ) → AreSame m b (xs ++ ys) → AreSame m b ys
same_second m b [] ys h = h
same_second m b (x ∷ xs) ys h = same_second m b xs ys h.1

same_at : (m : RecordBatch) (b : List ℕ) (i n j : ℕ) → AreSame m b (numbers_from i n) → j < n → IsSame m b (i + j)
same_at m b i zero j h below = absurd (omega (arith, below))
same_at m b i (suc n) zero h below = let e : i + 0 ≡ i = omega arith in rw e h.0
same_at m b i (suc n) (suc j) h below = let e : i + suc j ≡ suc i + j = omega arith in rw e (same_at m b (suc i) n j h.1 (omega (arith, below)))

-- ── tests and lists by row ──

some_row-same : (f g : ℕ → Bool) (n : ℕ) → ((k : ℕ) → k < n → f k ≡ g k) → some_row f n ≡ some_row g n
some_row-same f g zero h = refl
some_row-same f g (suc n) h = let first = some_row-same f g n (λ k below. h k (omega (arith, below))) in let last = h n (omega arith) in rw (first, last) refl

pub from_on-same : {A : Type 0} (f g : ℕ → A) (i n : ℕ) → ((j : ℕ) → i ≤ j → j < i + n → f j ≡ g j) → from_on f i n ≡ from_on g i n
from_on-same f g i zero h = refl
from_on-same f g i (suc n) h = ap (λ x. x ∷ from_on f (suc i) n) (h i (omega arith) (omega arith)) ∙ ap (λ xs. g i ∷ xs) (from_on-same f g (suc i) n (λ j above below. h j (omega (arith, above)) (omega (arith, below))))

-- ── parts ──

unsigned_in-same : (m : RecordBatch) (b : List ℕ) (w : Width) (i j : ℕ) → IsSame m b i → unsigned_in (with_body m b) w i j ≡ unsigned_in m w i j
unfolding unsigned_in
unsigned_in-same m b w i j e = ap (λ bytes. or_0 (num bytes (byte_len w * j) w m.order)) e

signed_in-same : (m : RecordBatch) (b : List ℕ) (w : Width) (i j : ℕ) → IsSame m b i → signed_in (with_body m b) w i j ≡ signed_in m w i j
signed_in-same m b w i j e = ap (λ n. cast_signed w n) (unsigned_in-same m b w i j e)

offset-same : (m : RecordBatch) (b : List ℕ) (o : Offsets) (i j : ℕ) → IsSame m b i → offset (with_body m b) o i j ≡ offset m o i j
offset-same m b o i j e = ap magnitude (signed_in-same m b (offset_width o) i j e)

integer_in-same : (m : RecordBatch) (b : List ℕ) (t : IntegerType) (i j : ℕ) → IsSame m b i → integer_in (with_body m b) t i j ≡ integer_in m t i j
integer_in-same m b t i j e = ap (λ n. cond (is_unsigned t) (pos n) (cast_signed (integer_width t) n)) (unsigned_in-same m b (integer_width t) i j e)

valid-if : (m : RecordBatch) (b : List ℕ) (p : Place) (row : ℕ) (nulls : Bool) → AreSame m b (cond nulls (p.buffer ∷ []) []) → cond nulls (bit (buf (with_body m b) p.buffer) row) true ≡ cond nulls (bit (buf m p.buffer) row) true
valid-if m b p row true h = ap (λ bytes. bit bytes row) h.0
valid-if m b p row false h = refl

valid-same : (m : RecordBatch) (b : List ℕ) (p : Place) (row : ℕ) → AreSame m b (validity_looked_at m p) → valid (with_body m b) p row ≡ valid m p row
unfolding valid
valid-same m b p row h = valid-if m b p row (has_nulls m p) h

-- ── what must hold of them ──

range_faults-same : (m : RecordBatch) (b : List ℕ) (i : ℕ) → length b ≡ length m.body → range_faults (with_body m b) i ≡ range_faults m i
unfolding range_faults
range_faults-same m b i len = ap (λ n. range_causes (slice_get m.buffers i) n) len

bitmap_faults-same : (m : RecordBatch) (b : List ℕ) (i rows : ℕ) → length b ≡ length m.body → bitmap_faults (with_body m b) i rows ≡ bitmap_faults m i rows
unfolding bitmap_faults
bitmap_faults-same m b i rows len = rw (range_faults-same m b i len) refl

validity_faults-same : (m : RecordBatch) (b : List ℕ) (p : Place) (rows : ℕ) → length b ≡ length m.body → validity_faults (with_body m b) p rows ≡ validity_faults m p rows
unfolding validity_faults
validity_faults-same m b p zero len = refl
validity_faults-same m b p (suc n) len = ap (λ es. cond (has_nulls m p) es []) (bitmap_faults-same m b p.buffer (suc n) len)

numbers_faults-same : (m : RecordBatch) (b : List ℕ) (i width count : ℕ) → length b ≡ length m.body → numbers_faults (with_body m b) i width count ≡ numbers_faults m i width count
unfolding numbers_faults
numbers_faults-same m b i width count len = rw (range_faults-same m b i len) refl

fixed_faults-same : (m : RecordBatch) (b : List ℕ) (p : Place) (width rows : ℕ) → length b ≡ length m.body → fixed_faults (with_body m b) p width rows ≡ fixed_faults m p width rows
fixed_faults-same m b p width rows len = let first = validity_faults-same m b p rows len in let second = numbers_faults-same m b (p.buffer + 1) width rows len in rw (first, second) refl

abbrev invalid_offsets : IpcError
invalid_offsets = OutOfSpec kinds.InvalidOffsets

offsets_faults-same : (m : RecordBatch) (b : List ℕ) (o : Offsets) (i rows most : ℕ) → IsSame m b i → offsets_faults (with_body m b) o i rows most ≡ offsets_faults m o i rows most
unfolding offsets_faults
offsets_faults-same m b o i rows most e =
    let negative : some_row (λ j. is_negative (signed_in (with_body m b) (offset_width o) i j)) (suc rows) ≡ some_row (λ j. is_negative (signed_in m (offset_width o) i j)) (suc rows) = some_row-same _ _ (suc rows) (λ k below. ap is_negative (signed_in-same m b (offset_width o) i k e)) in
    let falls : some_row (λ j. nat_lt (offset (with_body m b) o i (suc j)) (offset (with_body m b) o i j)) rows ≡ some_row (λ j. nat_lt (offset m o i (suc j)) (offset m o i j)) rows = some_row-same _ _ rows (λ k below. ap (λ x. nat_lt x (offset (with_body m b) o i k)) (offset-same m b o i (suc k) e) ∙ ap (λ x. nat_lt (offset m o i (suc k)) x) (offset-same m b o i k e)) in
    ap (λ x. cause (x || some_row (λ j. nat_lt (offset (with_body m b) o i (suc j)) (offset (with_body m b) o i j)) rows || nat_lt most (offset (with_body m b) o i rows)) invalid_offsets) negative
    ∙ ap (λ x. cause (some_row (λ j. is_negative (signed_in m (offset_width o) i j)) (suc rows) || x || nat_lt most (offset (with_body m b) o i rows)) invalid_offsets) falls
    ∙ ap (λ n. cause (some_row (λ j. is_negative (signed_in m (offset_width o) i j)) (suc rows) || some_row (λ j. nat_lt (offset m o i (suc j)) (offset m o i j)) rows || nat_lt most n) invalid_offsets) (offset-same m b o i rows e)

bytes_faults-same : (m : RecordBatch) (b : List ℕ) (o : Offsets) (p : Place) (rows : ℕ) → length b ≡ length m.body → IsSame m b (p.buffer + 1) → bytes_faults (with_body m b) o p rows ≡ bytes_faults m o p rows
unfolding bytes_faults
bytes_faults-same m b o p rows len e =
    let first = validity_faults-same m b p rows len in
    let second = numbers_faults-same m b (p.buffer + 1) (byte_len (offset_width o)) (suc rows) len in
    let third = range_faults-same m b (p.buffer + 2) len in
    let fourth = offsets_faults-same m b o (p.buffer + 1) rows (magnitude (range_of m (p.buffer + 2)).length) e in
    rw (first, second, third, fourth) refl

row_bytes-same : (m : RecordBatch) (b : List ℕ) (o : Offsets) (p : Place) (row : ℕ) → IsSame m b (p.buffer + 1) → IsSame m b (p.buffer + 2) → row_bytes (with_body m b) o p row ≡ row_bytes m o p row
row_bytes-same m b o p row e f = let at = offset-same m b o (p.buffer + 1) row e in let to = offset-same m b o (p.buffer + 1) (suc row) e in rw (f, at, to) refl

utf8_faults-same : (m : RecordBatch) (b : List ℕ) (o : Offsets) (p : Place) (rows : ℕ) → AreSame m b (validity_looked_at m p) → IsSame m b (p.buffer + 1) → IsSame m b (p.buffer + 2) → utf8_faults (with_body m b) o p rows ≡ utf8_faults m o p rows
unfolding utf8_faults
utf8_faults-same m b o p rows v e f = ap (λ x. cause x (OutOfSpec kinds.InvalidUtf8)) (some_row-same _ _ rows (λ k below. ap (λ x. x && not (is_utf8 (row_bytes (with_body m b) o p k))) (valid-same m b p k v) ∙ ap (λ bytes. valid m p k && not (is_utf8 bytes)) (row_bytes-same m b o p k e f)))

-- ── views ──

-- the data buffers of a view array are the same
abbrev DataSame : RecordBatch → List ℕ → Place → Type 0
DataSame m b p = (j : ℕ) → j < count_at m p.view → IsSame m b (p.buffer + 2 + j)

-- a view whose buffer is one of those counted
view_buffer : (m : RecordBatch) (b : List ℕ) (p : Place) (view : List ℕ) → DataSame m b p → (short known : Bool) → nat_lt (u32_of view 8) (count_at m p.view) ≡ known → (short ≡ true) ⊎ (known ≡ true) → cond short (take (u32_of view 0) (drop 4 view)) (take (u32_of view 0) (drop (u32_of view 12) (buf (with_body m b) (p.buffer + 2 + u32_of view 8)))) ≡ cond short (take (u32_of view 0) (drop 4 view)) (take (u32_of view 0) (drop (u32_of view 12) (buf m (p.buffer + 2 + u32_of view 8))))
view_buffer m b p view same true known is some = refl
view_buffer m b p view same false true is some = ap (λ bytes. take (u32_of view 0) (drop (u32_of view 12) bytes)) (same (u32_of view 8) (ltb-true (u32_of view 8) (count_at m p.view) is))
view_buffer m b p view same false false is (inl h) = cc
view_buffer m b p view same false false is (inr h) = cc

view_bytes-same : (m : RecordBatch) (b : List ℕ) (p : Place) (view : List ℕ) → DataSame m b p → is_good_view m p view ≡ true → view_bytes (with_body m b) p view ≡ view_bytes m p view
unfolding is_good_view
view_bytes-same m b p view same good = view_buffer m b p view same (nat_le (u32_of view 0) 12) (nat_lt (u32_of view 8) (count_at m p.view)) refl (of_good (nat_le (u32_of view 0) 12) _ _ _ _ good)
  where
    of_good : (short a x y z : Bool) → cond short z (a && x && y) ≡ true → (short ≡ true) ⊎ (a ≡ true)
    of_good true a x y z h = inl refl
    of_good false a x y z h = inr (and_parts a x (and_parts (a && x) y h).0).0

-- whether a view is good
good_view : (m : RecordBatch) (b : List ℕ) (p : Place) (view : List ℕ) → DataSame m b p → (short known z : Bool) → nat_lt (u32_of view 8) (count_at m p.view) ≡ known → cond short z (known && nat_le (u32_of view 12 + u32_of view 0) (length (buf (with_body m b) (p.buffer + 2 + u32_of view 8))) && bytes_eq (take 4 (drop 4 view)) (take 4 (cond short (take (u32_of view 0) (drop 4 view)) (take (u32_of view 0) (drop (u32_of view 12) (buf (with_body m b) (p.buffer + 2 + u32_of view 8)))))))
    ≡ cond short z (known && nat_le (u32_of view 12 + u32_of view 0) (length (buf m (p.buffer + 2 + u32_of view 8))) && bytes_eq (take 4 (drop 4 view)) (take 4 (cond short (take (u32_of view 0) (drop 4 view)) (take (u32_of view 0) (drop (u32_of view 12) (buf m (p.buffer + 2 + u32_of view 8)))))))
good_view m b p view same true known z is = refl
good_view m b p view same false false z is = refl
good_view m b p view same false true z is = ap (λ bytes. nat_le (u32_of view 12 + u32_of view 0) (length bytes) && bytes_eq (take 4 (drop 4 view)) (take 4 (take (u32_of view 0) (drop (u32_of view 12) bytes)))) (same (u32_of view 8) (ltb-true (u32_of view 8) (count_at m p.view) is))

is_good_view-same : (m : RecordBatch) (b : List ℕ) (p : Place) (view : List ℕ) → DataSame m b p → is_good_view (with_body m b) p view ≡ is_good_view m p view
unfolding is_good_view
is_good_view-same m b p view same = good_view m b p view same (nat_le (u32_of view 0) 12) (nat_lt (u32_of view 8) (count_at m p.view)) _ refl

view_of-same : (m : RecordBatch) (b : List ℕ) (p : Place) (row : ℕ) → IsSame m b (p.buffer + 1) → view_of (with_body m b) p row ≡ view_of m p row
view_of-same m b p row e = ap (λ bytes. take 16 (drop (16 * row) bytes)) e

bad_view_faults-same : (m : RecordBatch) (b : List ℕ) (p : Place) (rows : ℕ) → AreSame m b (validity_looked_at m p) → IsSame m b (p.buffer + 1) → DataSame m b p → bad_view_faults (with_body m b) p rows ≡ bad_view_faults m p rows
bad_view_faults-same m b p rows v e same =
    ap (λ x. cause x (OutOfSpec kinds.InvalidView)) (some_row-same _ _ rows (λ k below.
    ap (λ x. x && not (is_good_view (with_body m b) p (view_of (with_body m b) p k))) (valid-same m b p k v)
    ∙ ap (λ view. valid m p k && not (is_good_view (with_body m b) p view)) (view_of-same m b p k e)
    ∙ ap (λ x. valid m p k && not x) (is_good_view-same m b p (view_of m p k) same)))

no_text : (m : RecordBatch) (b : List ℕ) (p : Place) (view : List ℕ) → DataSame m b p → (good : Bool) → is_good_view m p view ≡ good → good && not (is_utf8 (view_bytes (with_body m b) p view)) ≡ good && not (is_utf8 (view_bytes m p view))
no_text m b p view same true h = ap (λ bytes. not (is_utf8 bytes)) (view_bytes-same m b p view same h)
no_text m b p view same false h = refl

text_view_faults-same : (m : RecordBatch) (b : List ℕ) (p : Place) (rows : ℕ) → AreSame m b (validity_looked_at m p) → IsSame m b (p.buffer + 1) → DataSame m b p → cause (some_valid_row (with_body m b) p (λ row. is_no_text_view (with_body m b) p (view_of (with_body m b) p row)) rows) (OutOfSpec kinds.InvalidUtf8) ≡ cause (some_valid_row m p (λ row. is_no_text_view m p (view_of m p row)) rows) (OutOfSpec kinds.InvalidUtf8)
text_view_faults-same m b p rows v e same =
    ap (λ x. cause x (OutOfSpec kinds.InvalidUtf8)) (some_row-same _ _ rows (λ k below.
    ap (λ x. x && is_no_text_view (with_body m b) p (view_of (with_body m b) p k)) (valid-same m b p k v)
    ∙ ap (λ view. valid m p k && is_no_text_view (with_body m b) p view) (view_of-same m b p k e)
    ∙ ap (λ x. valid m p k && (x && not (is_utf8 (view_bytes (with_body m b) p (view_of m p k))))) (is_good_view-same m b p (view_of m p k) same)
    ∙ ap (λ x. valid m p k && x) (no_text m b p (view_of m p k) same (is_good_view m p (view_of m p k)) refl)))

ranges_faults-same : (m : RecordBatch) (b : List ℕ) (i n : ℕ) → length b ≡ length m.body → ranges_faults (with_body m b) i n ≡ ranges_faults m i n
ranges_faults-same m b i zero len = refl
ranges_faults-same m b i (suc n) len = ap (λ es. es ++ ranges_faults (with_body m b) (suc i) n) (range_faults-same m b i len) ∙ ap (λ es. range_faults m i ++ es) (ranges_faults-same m b (suc i) n len)

data_faults_if : (m : RecordBatch) (b : List ℕ) (there : Bool) (i n : ℕ) (es : List IpcError) → length b ≡ length m.body → elim there as (λ t. List IpcError) [ true ↦ ranges_faults (with_body m b) i n | false ↦ es ] ≡ elim there as (λ t. List IpcError) [ true ↦ ranges_faults m i n | false ↦ es ]
data_faults_if m b true i n es len = ranges_faults-same m b i n len
data_faults_if m b false i n es len = refl

view_parts_faults-same : (m : RecordBatch) (b : List ℕ) (p : Place) (rows : ℕ) → length b ≡ length m.body → view_parts_faults (with_body m b) p rows ≡ view_parts_faults m p rows
unfolding view_parts_faults
view_parts_faults-same m b p rows len =
    let first = fixed_faults-same m b p 16 rows len in
    let second : data_faults (with_body m b) p (count_at m p.view) ≡ data_faults m p (count_at m p.view) = data_faults_if m b (nat_le (p.buffer + 2 + count_at m p.view) (length m.buffers)) (p.buffer + 2) (count_at m p.view) (OutOfSpec kinds.ExpectedBuffer ∷ []) len in
    rw (first, second) refl

-- ── keys and unions ──

key_faults-same : (m : RecordBatch) (b : List ℕ) (xs : Option (List Cell)) (t : IntegerType) (id : ℤ) (p : Place) (rows : ℕ) → AreSame m b (validity_looked_at m p) → IsSame m b (p.buffer + 1) → key_faults (with_body m b) xs t id p rows ≡ key_faults m xs t id p rows
unfolding key_faults
key_faults-same m b None t id p rows v e = ap (λ x. cause x (OutOfSpec (kinds.InvalidId id))) (some_row-same _ _ rows (λ k below. ap (λ x. x && true) (valid-same m b p k v)))
key_faults-same m b (Some xs) t id p rows v e =
    ap (λ x. cause x (OutOfSpec kinds.InvalidKey)) (some_row-same _ _ rows (λ k below.
    ap (λ x. x && (is_negative (integer_in (with_body m b) t (p.buffer + 1) k) || nat_le (length xs) (magnitude (integer_in (with_body m b) t (p.buffer + 1) k)))) (valid-same m b p k v)
    ∙ ap (λ z. valid m p k && (is_negative z || nat_le (length xs) (magnitude z))) (integer_in-same m b t (p.buffer + 1) k e)))

place_in-same : (m : RecordBatch) (b : List ℕ) (fs : Fields) (i : ℕ) (p : Place) → place_in (with_body m b) fs i p ≡ place_in m fs i p
place_in-same m b none i p = refl
place_in-same m b (field name nullable metadata k others) zero p = refl
place_in-same m b (field name nullable metadata k others) (suc i) p = place_in-same m b others i (after m k p)

is_bad_row-same : (m : RecordBatch) (b : List ℕ) (fs : Fields) (p : Place) (i : Option ℕ) (at : ℤ) → is_bad_row (with_body m b) fs p i at ≡ is_bad_row m fs p i at
is_bad_row-same m b fs p None at = refl
is_bad_row-same m b fs p (Some i) at = ap (λ q. is_negative at || nat_le (end_of m q.node) (magnitude at)) (place_in-same m b fs i p)

dense_buffer_faults-same : (m : RecordBatch) (b : List ℕ) (mode : UnionMode) (p : Place) (rows : ℕ) → length b ≡ length m.body → dense_buffer_faults (with_body m b) mode p rows ≡ dense_buffer_faults m mode p rows
dense_buffer_faults-same m b Sparse p rows len = refl
dense_buffer_faults-same m b Dense p rows len = numbers_faults-same m b (suc (types_buffer m p)) 4 rows len

dense_faults-same : (m : RecordBatch) (b : List ℕ) (mode : UnionMode) (ids : List ℤ) (fs : Fields) (p : Place) (rows : ℕ) → AreSame m b (union_looked_at m mode p) → dense_faults (with_body m b) mode ids fs p rows ≡ dense_faults m mode ids fs p rows
dense_faults-same m b Sparse ids fs p rows h = refl
dense_faults-same m b Dense ids fs p rows h =
    let q = inside (union_buffers m.version Dense) p in
    ap (λ x. cause x (OutOfSpec kinds.InvalidOffsets)) (some_row-same _ _ rows (λ k below.
    ap (λ z. is_bad_row (with_body m b) fs q (id_place ids z) (signed_in (with_body m b) w32 (suc (types_buffer m p)) k)) (signed_in-same m b w8 (types_buffer m p) k h.0)
    ∙ ap (λ z. is_bad_row (with_body m b) fs q (id_place ids (signed_in m w8 (types_buffer m p) k)) z) (signed_in-same m b w32 (suc (types_buffer m p)) k h.1.0)
    ∙ is_bad_row-same m b fs q (id_place ids (signed_in m w8 (types_buffer m p) k)) (signed_in m w32 (suc (types_buffer m p)) k)))

types-same : (m : RecordBatch) (b : List ℕ) (mode : UnionMode) (p : Place) → AreSame m b (union_looked_at m mode p) → IsSame m b (types_buffer m p)
types-same m b Sparse p h = h.0
types-same m b Dense p h = h.0

union_faults-same : (m : RecordBatch) (b : List ℕ) (mode : UnionMode) (ids : List ℤ) (fs : Fields) (p : Place) (rows : ℕ) → length b ≡ length m.body → AreSame m b (union_looked_at m mode p) → union_faults (with_body m b) mode ids fs p rows ≡ union_faults m mode ids fs p rows
unfolding union_faults
union_faults-same m b mode ids fs p rows len h =
    let first = numbers_faults-same m b (types_buffer m p) 1 rows len in
    let second = dense_buffer_faults-same m b mode p rows len in
    let third : some_row (λ row. is_no_id (id_place ids (signed_in (with_body m b) w8 (types_buffer m p) row))) rows ≡ some_row (λ row. is_no_id (id_place ids (signed_in m w8 (types_buffer m p) row))) rows = some_row-same _ _ rows (λ k below. ap (λ z. is_no_id (id_place ids z)) (signed_in-same m b w8 (types_buffer m p) k (types-same m b mode p h))) in
    let fourth = dense_faults-same m b mode ids fs p rows h in
    rw (first, second, third, fourth) refl

views_faults-same : (m : RecordBatch) (b : List ℕ) (p : Place) (rows : ℕ) → length b ≡ length m.body → AreSame m b (validity_looked_at m p) → IsSame m b (p.buffer + 1) → DataSame m b p → views_faults (with_body m b) p rows ≡ views_faults m p rows
unfolding views_faults
views_faults-same m b p rows len v e same = ap (λ es. if_sound es (bad_view_faults (with_body m b) p rows)) (view_parts_faults-same m b p rows len) ∙ ap (λ es. if_sound (view_parts_faults m p rows) es) (bad_view_faults-same m b p rows v e same)

view_text_faults-same : (m : RecordBatch) (b : List ℕ) (p : Place) (rows : ℕ) → length b ≡ length m.body → AreSame m b (validity_looked_at m p) → IsSame m b (p.buffer + 1) → DataSame m b p → view_text_faults (with_body m b) p rows ≡ view_text_faults m p rows
unfolding view_text_faults
view_text_faults-same m b p rows len v e same =
    ap (λ es. if_sound es (bad_view_faults (with_body m b) p rows ++ cause (some_valid_row (with_body m b) p (λ row. is_no_text_view (with_body m b) p (view_of (with_body m b) p row)) rows) (OutOfSpec kinds.InvalidUtf8))) (view_parts_faults-same m b p rows len)
    ∙ ap (λ es. if_sound (view_parts_faults m p rows) (es ++ cause (some_valid_row (with_body m b) p (λ row. is_no_text_view (with_body m b) p (view_of (with_body m b) p row)) rows) (OutOfSpec kinds.InvalidUtf8))) (bad_view_faults-same m b p rows v e same)
    ∙ ap (λ es. if_sound (view_parts_faults m p rows) (bad_view_faults m p rows ++ es)) (text_view_faults-same m b p rows v e same)

-- ── arrays ──

-- the dictionaries have the same cells under each id
abbrev pub SameCells : Dictionaries → Dictionaries → Type 0
SameCells d d' = (id : ℤ) → found d' id ≡ found d id

data_same : (m : RecordBatch) (b : List ℕ) (p : Place) → AreSame m b (numbers_from (p.buffer + 1) (suc (count_at m p.view))) → DataSame m b p
data_same m b p h j below = let e : p.buffer + 1 + suc j ≡ p.buffer + 2 + j = omega arith in rw e at (same_at m b (p.buffer + 1) (suc (count_at m p.view)) (suc j) h (omega (arith, below)))

flat_faults-same : (m : RecordBatch) (b : List ℕ) (d d' : Dictionaries) → length b ≡ length m.body → SameCells d d' → (k : Kind) (p : Place) (n : ℕ) → AreSame m b (looked_at m k p) → flat_faults (with_body m b) d' k p n ≡ flat_faults m d k p n
flat_faults-same m b d d' len same k p zero h = refl
flat_faults-same m b d d' len same boolean p (suc n) h = let first = validity_faults-same m b p (suc n) len in let second = bitmap_faults-same m b (p.buffer + 1) (suc n) len in rw (first, second) refl
flat_faults-same m b d d' len same (integer t) p (suc n) h = fixed_faults-same m b p (byte_len (integer_width t)) (suc n) len
flat_faults-same m b d d' len same date32 p (suc n) h = fixed_faults-same m b p (4) (suc n) len
flat_faults-same m b d d' len same date64 p (suc n) h = fixed_faults-same m b p (8) (suc n) len
flat_faults-same m b d d' len same (time32 u) p (suc n) h = fixed_faults-same m b p (4) (suc n) len
flat_faults-same m b d d' len same (time64 u) p (suc n) h = fixed_faults-same m b p (8) (suc n) len
flat_faults-same m b d d' len same (timestamp u tz) p (suc n) h = fixed_faults-same m b p (8) (suc n) len
flat_faults-same m b d d' len same (duration u) p (suc n) h = fixed_faults-same m b p (8) (suc n) len
flat_faults-same m b d d' len same (interval YearMonth) p (suc n) h = fixed_faults-same m b p (4) (suc n) len
flat_faults-same m b d d' len same (interval DayTime) p (suc n) h = fixed_faults-same m b p (8) (suc n) len
flat_faults-same m b d d' len same (interval MonthDayNano) p (suc n) h = fixed_faults-same m b p (16) (suc n) len
flat_faults-same m b d d' len same (decimal precision scale) p (suc n) h = fixed_faults-same m b p (16) (suc n) len
flat_faults-same m b d d' len same (binary o) p (suc n) h = bytes_faults-same m b o p (suc n) len (same_second m b (validity_looked_at m p) _ h).0
flat_faults-same m b d d' len same (utf8 o) p (suc n) h =
    let v = same_first m b (validity_looked_at m p) _ h in
    let parts = same_second m b (validity_looked_at m p) _ h in
    ap (λ es. if_sound es (utf8_faults (with_body m b) o p (suc n))) (bytes_faults-same m b o p (suc n) len parts.0) ∙ ap (λ es. if_sound (bytes_faults m o p (suc n)) es) (utf8_faults-same m b o p (suc n) v parts.0 parts.1.0)
flat_faults-same m b d d' len same binary_view p (suc n) h =
    let v = same_first m b (validity_looked_at m p) _ h in
    let parts = same_second m b (validity_looked_at m p) _ h in
    views_faults-same m b p (suc n) len v parts.0 (data_same m b p parts)
flat_faults-same m b d d' len same utf8_view p (suc n) h =
    let v = same_first m b (validity_looked_at m p) _ h in
    let parts = same_second m b (validity_looked_at m p) _ h in
    view_text_faults-same m b p (suc n) len v parts.0 (data_same m b p parts)
flat_faults-same m b d d' len same (fixed_size_binary size) p (suc n) h = fixed_faults-same m b p (size) (suc n) len
flat_faults-same m b d d' len same (dictionary t ordered id k) p (suc n) h =
    let v = same_first m b (validity_looked_at m p) _ h in
    let parts = same_second m b (validity_looked_at m p) _ h in
    ap (λ es. if_sound es (key_faults (with_body m b) (found d' id) t id p (suc n))) (fixed_faults-same m b p (byte_len (integer_width t)) (suc n) len)
    ∙ ap (λ xs. if_sound (fixed_faults m p (byte_len (integer_width t)) (suc n)) (key_faults (with_body m b) xs t id p (suc n))) (same id)
    ∙ ap (λ es. if_sound (fixed_faults m p (byte_len (integer_width t)) (suc n)) es) (key_faults-same m b (found d id) t id p (suc n) v parts.0)
flat_faults-same m b d d' len same k p (suc n) h = refl

joined : {xs xs' ys ys' : List IpcError} → xs ≡ xs' → ys ≡ ys' → xs ++ ys ≡ xs' ++ ys'
joined {xs} {xs'} {ys} {ys'} e f = ap (λ zs. zs ++ ys) e ∙ ap (λ zs. xs' ++ zs) f

nested : {a a' v v' o o' x x' c c' : List IpcError} → a ≡ a' → v ≡ v' → o ≡ o' → x ≡ x' → c ≡ c' → a ++ v ++ if_sound o (x ++ c) ≡ a' ++ v' ++ if_sound o' (x' ++ c')
nested {a} {a'} {v} {v'} {o} {o'} {x} {x'} {c} {c'} ha hv ho hx hc = joined (joined ha hv) (ap (λ es. if_sound es (x ++ c)) ho ∙ ap (λ es. if_sound o' es) (joined hx hc))

node_faults-same : (m : RecordBatch) (b : List ℕ) (p : Place) (rows : ℕ) → node_faults (with_body m b) p rows ≡ node_faults m p rows
unfolding node_faults
node_faults-same m b p rows = refl

mutual
  pub array_faults-same : (m : RecordBatch) (b : List ℕ) (d d' : Dictionaries) → length b ≡ length m.body → SameCells d d' → (k : Kind) (p : Place) (n : ℕ) → AreSame m b (looked_at m k p) → array_faults (with_body m b) d' k p n ≡ array_faults m d k p n
  array_faults-same m b d d' len same (extension name metadata k) p n h = array_faults-same m b d d' len same k p n h
  array_faults-same m b d d' len same (fixed_size_list size fs) p n h =
      let first = node_faults-same m b p n in
      let second = validity_faults-same m b p n len in
      let third = child_faults-same m b d d' len same fs (inside 1 p) (λ q. size * n) (same_second m b (validity_looked_at m p) _ h) in
      rw (first, second, third) refl
  array_faults-same m b d d' len same (struct fs) p n h =
      let first = node_faults-same m b p n in
      let second = validity_faults-same m b p n len in
      let third = child_faults-same m b d d' len same fs (inside 1 p) (λ q. n) (same_second m b (validity_looked_at m p) _ h) in
      rw (first, second, third) refl
  array_faults-same m b d d' len same («list» o fs) p zero h =
      let first = node_faults-same m b p 0 in
      let parts = same_second m b (validity_looked_at m p) _ h in
      let third = child_faults-same m b d d' len same fs (inside 2 p) (λ q. 0) parts.1 in
      rw (first, third) refl
  array_faults-same m b d d' len same («list» o fs) p (suc n) h =
      let parts = same_second m b (validity_looked_at m p) _ h in
      let children : child_faults (with_body m b) d' fs (inside 2 p) (λ q. offset (with_body m b) o (p.buffer + 1) (suc n)) ≡ child_faults m d fs (inside 2 p) (λ q. offset m o (p.buffer + 1) (suc n)) =
      ap (λ x. child_faults (with_body m b) d' fs (inside 2 p) (λ q. x)) (offset-same m b o (p.buffer + 1) (suc n) parts.0) ∙ child_faults-same m b d d' len same fs (inside 2 p) (λ q. offset m o (p.buffer + 1) (suc n)) parts.1 in
      nested (node_faults-same m b p (suc n)) (validity_faults-same m b p (suc n) len) (numbers_faults-same m b (p.buffer + 1) (byte_len (offset_width o)) (suc (suc n)) len) (offsets_faults-same m b o (p.buffer + 1) (suc n) (end_of m (suc p.node)) parts.0) children
  array_faults-same m b d d' len same (map_of sorted fs) p zero h =
      let first = node_faults-same m b p 0 in
      let parts = same_second m b (validity_looked_at m p) _ h in
      let third = child_faults-same m b d d' len same fs (inside 2 p) (λ q. 0) parts.1 in
      rw (first, third) refl
  array_faults-same m b d d' len same (map_of sorted fs) p (suc n) h =
      let parts = same_second m b (validity_looked_at m p) _ h in
      let children : child_faults (with_body m b) d' fs (inside 2 p) (λ q. offset (with_body m b) small (p.buffer + 1) (suc n)) ≡ child_faults m d fs (inside 2 p) (λ q. offset m small (p.buffer + 1) (suc n)) =
      ap (λ x. child_faults (with_body m b) d' fs (inside 2 p) (λ q. x)) (offset-same m b small (p.buffer + 1) (suc n) parts.0) ∙ child_faults-same m b d d' len same fs (inside 2 p) (λ q. offset m small (p.buffer + 1) (suc n)) parts.1 in
      nested (node_faults-same m b p (suc n)) (validity_faults-same m b p (suc n) len) (numbers_faults-same m b (p.buffer + 1) (byte_len (offset_width small)) (suc (suc n)) len) (offsets_faults-same m b small (p.buffer + 1) (suc n) (end_of m (suc p.node)) parts.0) children
  array_faults-same m b d d' len same (union Sparse stated ids fs) p zero h =
      let parts = same_second m b (union_looked_at m Sparse p) _ h in
      joined (node_faults-same m b p 0) (child_faults-same m b d d' len same fs (inside (union_buffers m.version Sparse) p) (λ q. 0) parts)
  array_faults-same m b d d' len same (union Sparse stated ids fs) p (suc n) h =
      let parts = same_second m b (union_looked_at m Sparse p) _ h in
      joined (joined (node_faults-same m b p (suc n)) (union_faults-same m b Sparse ids fs p (suc n) len (same_first m b (union_looked_at m Sparse p) _ h))) (child_faults-same m b d d' len same fs (inside (union_buffers m.version Sparse) p) (λ q. suc n) parts)
  array_faults-same m b d d' len same (union Dense stated ids fs) p zero h =
      let parts = same_second m b (union_looked_at m Dense p) _ h in
      joined (node_faults-same m b p 0) (child_faults-same m b d d' len same fs (inside (union_buffers m.version Dense) p) (λ q. 0) parts)
  array_faults-same m b d d' len same (union Dense stated ids fs) p (suc n) h =
      let parts = same_second m b (union_looked_at m Dense p) _ h in
      joined (joined (node_faults-same m b p (suc n)) (union_faults-same m b Dense ids fs p (suc n) len (same_first m b (union_looked_at m Dense p) _ h))) (child_faults-same m b d d' len same fs (inside (union_buffers m.version Dense) p) (λ q. magnitude (node_of m q.node).length) parts)
  array_faults-same m b d d' len same k p n h = ap (λ es. es ++ flat_faults (with_body m b) d' k p n) (node_faults-same m b p n) ∙ ap (λ es. node_faults m p n ++ es) (flat_faults-same m b d d' len same k p n h)

  pub child_faults-same : (m : RecordBatch) (b : List ℕ) (d d' : Dictionaries) → length b ≡ length m.body → SameCells d d' → (fs : Fields) (p : Place) (rows : Place → ℕ) → AreSame m b (looked_at_in m fs p) → child_faults (with_body m b) d' fs p rows ≡ child_faults m d fs p rows
  child_faults-same m b d d' len same none p rows h = refl
  child_faults-same m b d d' len same (field name nullable metadata k others) p rows h =
      joined (array_faults-same m b d d' len same k p (rows p) (same_first m b (looked_at m k p) _ h)) (ap (λ es. if_sound (view_count_faults m k p) es) (child_faults-same m b d d' len same others (after m k p) rows (same_second m b (looked_at m k p) _ h)))

-- ── cells ──

if_same : (t t' : Bool) (x x' : Cell) → t ≡ t' → (t' ≡ true → x ≡ x') → cond t x cells.null ≡ cond t' x' cells.null
if_same true true x x' e f = f refl
if_same false false x x' e f = refl
if_same true false x x' e f = cc
if_same false true x x' e f = cc

if_valid-same : (m : RecordBatch) (b : List ℕ) (p : Place) (row : ℕ) (x x' : Cell) → AreSame m b (validity_looked_at m p) → (valid m p row ≡ true → x ≡ x') → if_valid (with_body m b) p row x ≡ if_valid m p row x'
if_valid-same m b p row x x' v f = if_same (valid (with_body m b) p row) (valid m p row) x x' (valid-same m b p row v) f

-- a row that isn't null has a good view
good_at : (m : RecordBatch) (p : Place) (n row : ℕ) → row < n → bad_view_faults m p n ≡ [] → valid m p row ≡ true → is_good_view m p (view_of m p row) ≡ true
good_at m p n row below h is_valid = by_cases (valid m p row) (is_good_view m p (view_of m p row)) is_valid (some_row-none (λ k. valid m p k && not (is_good_view m p (view_of m p k))) n row (cause-none _ _ h) below)
  where
    by_cases : (v g : Bool) → v ≡ true → (v && not g) ≡ false → g ≡ true
    by_cases true true is h = refl
    by_cases true false is h = cc
    by_cases false g is h = cc

view_cell : (m : RecordBatch) (b : List ℕ) (p : Place) (n row : ℕ) → row < n → AreSame m b (validity_looked_at m p) → IsSame m b (p.buffer + 1) → DataSame m b p → bad_view_faults m p n ≡ [] → valid m p row ≡ true → view_bytes (with_body m b) p (view_of (with_body m b) p row) ≡ view_bytes m p (view_of m p row)
view_cell m b p n row below v e same h is = ap (λ view. view_bytes (with_body m b) p view) (view_of-same m b p row e) ∙ view_bytes-same m b p (view_of m p row) same (good_at m p n row below h is)

number_in-same : (m : RecordBatch) (b : List ℕ) (p : Place) (w : Width) (row : ℕ) → AreSame m b (validity_looked_at m p ++ (p.buffer + 1) ∷ []) → number_in (with_body m b) p w row ≡ number_in m p w row
number_in-same m b p w row h = if_valid-same m b p row _ _ (same_first m b (validity_looked_at m p) _ h) (λ is. ap cells.number (signed_in-same m b w (p.buffer + 1) row (same_second m b (validity_looked_at m p) _ h).0))

part_of_row-same : (m : RecordBatch) (b : List ℕ) (p : Place) (stride at : ℕ) (w : Width) (row : ℕ) → IsSame m b (p.buffer + 1) → part_of_row (with_body m b) p stride at w row ≡ part_of_row m p stride at w row
part_of_row-same m b p stride at w row e = ap (λ bytes. cast_signed w (or_0 (num bytes (stride * row + at) w m.order))) e

bad_of_binary_view : (m : RecordBatch) (p : Place) (n : ℕ) → views_faults m p n ≡ [] → bad_view_faults m p n ≡ []
unfolding views_faults
bad_of_binary_view m p n h = sound_second _ _ h

bad_of_utf8_view : (m : RecordBatch) (p : Place) (n : ℕ) → view_text_faults m p n ≡ [] → bad_view_faults m p n ≡ []
unfolding view_text_faults
bad_of_utf8_view m p n h = none_first _ _ (sound_second _ _ h)

union_tests : (m : RecordBatch) (mode : UnionMode) (ids : List ℤ) (fs : Fields) (p : Place) (n : ℕ) → union_faults m mode ids fs p n ≡ [] → cause (some_row (λ row. is_no_id (id_place ids (signed_in m w8 (types_buffer m p) row))) n) (OutOfSpec kinds.InvalidUnion) ++ dense_faults m mode ids fs p n ≡ []
unfolding union_faults
union_tests m mode ids fs p n h = sound_second _ _ (none_second _ _ h)

mutual
  pub cell-same : (m : RecordBatch) (b : List ℕ) (d d' : Dictionaries) → SameCells d d' → (k : Kind) (p : Place) (n row : ℕ) → row < n → AreSame m b (looked_at m k p) → array_faults m d k p n ≡ [] → cell (with_body m b) d' k p row ≡ cell m d k p row
  cell-same m b d d' same null p n row below h none_wrong = refl
  cell-same m b d d' same (float t) p n row below h none_wrong = refl
  cell-same m b d d' same (decimal256 precision scale) p n row below h none_wrong = refl
  cell-same m b d d' same boolean p n row below h none_wrong = if_valid-same m b p row _ _ (same_first m b (validity_looked_at m p) _ h) (λ is. ap (λ bytes. cells.bool (bit bytes row)) (same_second m b (validity_looked_at m p) _ h).0)
  cell-same m b d d' same (integer t) p n row below h none_wrong = if_valid-same m b p row _ _ (same_first m b (validity_looked_at m p) _ h) (λ is. ap cells.number (integer_in-same m b t (p.buffer + 1) row (same_second m b (validity_looked_at m p) _ h).0))
  cell-same m b d d' same date32 p n row below h none_wrong = number_in-same m b p w32 row h
  cell-same m b d d' same date64 p n row below h none_wrong = number_in-same m b p w64 row h
  cell-same m b d d' same (time32 u) p n row below h none_wrong = number_in-same m b p w32 row h
  cell-same m b d d' same (time64 u) p n row below h none_wrong = number_in-same m b p w64 row h
  cell-same m b d d' same (timestamp u tz) p n row below h none_wrong = number_in-same m b p w64 row h
  cell-same m b d d' same (duration u) p n row below h none_wrong = number_in-same m b p w64 row h
  cell-same m b d d' same (interval YearMonth) p n row below h none_wrong = number_in-same m b p w32 row h
  cell-same m b d d' same (decimal precision scale) p n row below h none_wrong = number_in-same m b p w128 row h
  cell-same m b d d' same (interval DayTime) p n row below h none_wrong =
      if_valid-same m b p row _ _ (same_first m b (validity_looked_at m p) _ h) (λ is.
      let first = part_of_row-same m b p 8 0 w32 row (same_second m b (validity_looked_at m p) _ h).0 in
      let second = part_of_row-same m b p 8 4 w32 row (same_second m b (validity_looked_at m p) _ h).0 in
      rw (first, second) refl)
  cell-same m b d d' same (interval MonthDayNano) p n row below h none_wrong =
      if_valid-same m b p row _ _ (same_first m b (validity_looked_at m p) _ h) (λ is.
      let first = part_of_row-same m b p 16 0 w32 row (same_second m b (validity_looked_at m p) _ h).0 in
      let second = part_of_row-same m b p 16 4 w32 row (same_second m b (validity_looked_at m p) _ h).0 in
      let third = part_of_row-same m b p 16 8 w64 row (same_second m b (validity_looked_at m p) _ h).0 in
      rw (first, second, third) refl)
  cell-same m b d d' same (binary o) p n row below h none_wrong = if_valid-same m b p row _ _ (same_first m b (validity_looked_at m p) _ h) (λ is. ap cells.bytes (row_bytes-same m b o p row (same_second m b (validity_looked_at m p) _ h).0 (same_second m b (validity_looked_at m p) _ h).1.0))
  cell-same m b d d' same (utf8 o) p n row below h none_wrong = if_valid-same m b p row _ _ (same_first m b (validity_looked_at m p) _ h) (λ is. ap cells.text (row_bytes-same m b o p row (same_second m b (validity_looked_at m p) _ h).0 (same_second m b (validity_looked_at m p) _ h).1.0))
  cell-same m b d d' same binary_view p zero row below h none_wrong = absurd (omega (arith, below))
  cell-same m b d d' same binary_view p (suc n) row below h none_wrong =
      let parts = same_second m b (validity_looked_at m p) _ h in
      if_valid-same m b p row _ _ (same_first m b (validity_looked_at m p) _ h) (λ is. ap cells.bytes (view_cell m b p (suc n) row below (same_first m b (validity_looked_at m p) _ h) parts.0 (data_same m b p parts) (bad_of_binary_view m p (suc n) (none_second _ _ none_wrong)) is))
  cell-same m b d d' same utf8_view p zero row below h none_wrong = absurd (omega (arith, below))
  cell-same m b d d' same utf8_view p (suc n) row below h none_wrong =
      let parts = same_second m b (validity_looked_at m p) _ h in
      if_valid-same m b p row _ _ (same_first m b (validity_looked_at m p) _ h) (λ is. ap cells.text (view_cell m b p (suc n) row below (same_first m b (validity_looked_at m p) _ h) parts.0 (data_same m b p parts) (bad_of_utf8_view m p (suc n) (none_second _ _ none_wrong)) is))
  cell-same m b d d' same (fixed_size_binary size) p n row below h none_wrong = if_valid-same m b p row _ _ (same_first m b (validity_looked_at m p) _ h) (λ is. ap (λ bytes. cells.bytes (take size (drop (size * row) bytes))) (same_second m b (validity_looked_at m p) _ h).0)
  cell-same m b d d' same («list» o fs) p zero row below h none_wrong = absurd (omega (arith, below))
  cell-same m b d d' same («list» o fs) p (suc n) row below h none_wrong =
      let parts = same_second m b (validity_looked_at m p) _ h in
      let inner : offsets_faults m o (p.buffer + 1) (suc n) (end_of m (suc p.node)) ++ child_faults m d fs (inside 2 p) (λ q. offset m o (p.buffer + 1) (suc n)) ≡ [] = sound_second (offsets_buffer_faults m o (p.buffer + 1) (suc n)) _ (none_second (node_faults m p (suc n) ++ validity_faults m p (suc n)) _ none_wrong) in
      let at = offset-same m b o (p.buffer + 1) row parts.0 in
      let to = offset-same m b o (p.buffer + 1) (suc row) parts.0 in
      let children = from_on-same (λ j. cell_in (with_body m b) d' fs 0 (inside 2 p) j) (λ j. cell_in m d fs 0 (inside 2 p) j) (offset m o (p.buffer + 1) row) (offset m o (p.buffer + 1) (suc row) - offset m o (p.buffer + 1) row)
      (λ j above j_below. cell_in-same m b d d' same fs 0 (inside 2 p) (λ q. offset m o (p.buffer + 1) (suc n)) j (λ _. row_offset m o (p.buffer + 1) (suc n) row (end_of m (suc p.node)) below (none_first _ _ inner) j j_below) parts.1 (none_second _ _ inner)) in
      if_valid-same m b p row _ _ (same_first m b (validity_looked_at m p) _ h) (λ is. rw (at, to) (ap (λ xs. cells.«list» (cells_of xs)) children))
  cell-same m b d d' same (map_of sorted fs) p zero row below h none_wrong = absurd (omega (arith, below))
  cell-same m b d d' same (map_of sorted fs) p (suc n) row below h none_wrong =
      let parts = same_second m b (validity_looked_at m p) _ h in
      let inner : offsets_faults m small (p.buffer + 1) (suc n) (end_of m (suc p.node)) ++ child_faults m d fs (inside 2 p) (λ q. offset m small (p.buffer + 1) (suc n)) ≡ [] = sound_second (offsets_buffer_faults m small (p.buffer + 1) (suc n)) _ (none_second (node_faults m p (suc n) ++ validity_faults m p (suc n)) _ none_wrong) in
      let at = offset-same m b small (p.buffer + 1) row parts.0 in
      let to = offset-same m b small (p.buffer + 1) (suc row) parts.0 in
      let children = from_on-same (λ j. cell_in (with_body m b) d' fs 0 (inside 2 p) j) (λ j. cell_in m d fs 0 (inside 2 p) j) (offset m small (p.buffer + 1) row) (offset m small (p.buffer + 1) (suc row) - offset m small (p.buffer + 1) row)
      (λ j above j_below. cell_in-same m b d d' same fs 0 (inside 2 p) (λ q. offset m small (p.buffer + 1) (suc n)) j (λ _. row_offset m small (p.buffer + 1) (suc n) row (end_of m (suc p.node)) below (none_first _ _ inner) j j_below) parts.1 (none_second _ _ inner)) in
      if_valid-same m b p row _ _ (same_first m b (validity_looked_at m p) _ h) (λ is. rw (at, to) (ap (λ xs. cells.«list» (cells_of xs)) children))
  cell-same m b d d' same (fixed_size_list size fs) p n row below h none_wrong =
      let children = from_on-same (λ j. cell_in (with_body m b) d' fs 0 (inside 1 p) j) (λ j. cell_in m d fs 0 (inside 1 p) j) (size * row) size
      (λ j above j_below. cell_in-same m b d d' same fs 0 (inside 1 p) (λ q. size * n) j (λ _. fixed_row size n row j below j_below) (same_second m b (validity_looked_at m p) _ h) (none_second _ _ none_wrong)) in
      if_valid-same m b p row _ _ (same_first m b (validity_looked_at m p) _ h) (λ is. ap (λ xs. cells.«list» (cells_of xs)) children)
  cell-same m b d d' same (struct fs) p n row below h none_wrong = if_valid-same m b p row _ _ (same_first m b (validity_looked_at m p) _ h) (λ is. ap cells.struct (row_of-same m b d d' same fs (inside 1 p) n row below (same_second m b (validity_looked_at m p) _ h) (none_second _ _ none_wrong)))
  cell-same m b d d' same (union Sparse stated ids fs) p zero row below h none_wrong = absurd (omega (arith, below))
  cell-same m b d d' same (union Sparse stated ids fs) p (suc n) row below h none_wrong =
      let q = inside (union_buffers m.version Sparse) p in
      let own = same_first m b (union_looked_at m Sparse p) _ h in
      let tag = signed_in-same m b w8 (types_buffer m p) row own.0 in
      let child = cell_in-same m b d d' same fs (or_0 (id_place ids (signed_in m w8 (types_buffer m p) row))) q (λ x. suc n) row (λ _. below) (same_second m b (union_looked_at m Sparse p) _ h) (none_second _ _ none_wrong) in
      ap (λ z. cells.tagged z (cell_in (with_body m b) d' fs (or_0 (id_place ids z)) q row)) tag ∙ ap (λ x. cells.tagged (signed_in m w8 (types_buffer m p) row) x) child
  cell-same m b d d' same (union Dense stated ids fs) p zero row below h none_wrong = absurd (omega (arith, below))
  cell-same m b d d' same (union Dense stated ids fs) p (suc n) row below h none_wrong =
      let q = inside (union_buffers m.version Dense) p in
      let own = same_first m b (union_looked_at m Dense p) _ h in
      let tag = signed_in-same m b w8 (types_buffer m p) row own.0 in
      let at = offset-same m b small (suc (types_buffer m p)) row own.1.0 in
      let tests = union_tests m Dense ids fs p (suc n) (none_second _ _ (none_first _ _ none_wrong)) in
      let is_one = some_row-none (λ k. is_no_id (id_place ids (signed_in m w8 (types_buffer m p) k))) (suc n) row (cause-none _ _ (none_first _ _ tests)) below in
      let is_row = some_row-none (λ k. is_bad_row m fs q (id_place ids (signed_in m w8 (types_buffer m p) k)) (signed_in m w32 (suc (types_buffer m p)) k)) (suc n) row (cause-none _ _ (none_second _ _ tests)) below in
      let child = cell_in-same m b d d' same fs (or_0 (id_place ids (signed_in m w8 (types_buffer m p) row))) q (λ x. magnitude (node_of m x.node).length) (offset m small (suc (types_buffer m p)) row) (dense_row m d fs q (λ x. magnitude (node_of m x.node).length) _ _ is_one is_row (none_second _ _ none_wrong)) (same_second m b (union_looked_at m Dense p) _ h) (none_second _ _ none_wrong) in
      ap (λ z. cells.tagged z (cell_in (with_body m b) d' fs (or_0 (id_place ids z)) q (offset (with_body m b) small (suc (types_buffer m p)) row))) tag
      ∙ ap (λ x. cells.tagged (signed_in m w8 (types_buffer m p) row) (cell_in (with_body m b) d' fs (or_0 (id_place ids (signed_in m w8 (types_buffer m p) row))) q x)) at
      ∙ ap (λ x. cells.tagged (signed_in m w8 (types_buffer m p) row) x) child
  cell-same m b d d' same (dictionary t ordered id k) p n row below h none_wrong = if_valid-same m b p row _ _ (same_first m b (validity_looked_at m p) _ h) (λ is. ap (λ xs. keyed xs (integer_in (with_body m b) t (p.buffer + 1) row)) (same id) ∙ ap (λ z. keyed (found d id) z) (integer_in-same m b t (p.buffer + 1) row (same_second m b (validity_looked_at m p) _ h).0))
  cell-same m b d d' same (extension name metadata k) p n row below h none_wrong = cell-same m b d d' same k p n row below h none_wrong

  pub cell_in-same : (m : RecordBatch) (b : List ℕ) (d d' : Dictionaries) → SameCells d d' → (fs : Fields) (i : ℕ) (p : Place) (rows : Place → ℕ) (row : ℕ) → (i < width fs → row < rows (place_in m fs i p)) → AreSame m b (looked_at_in m fs p) → child_faults m d fs p rows ≡ [] → cell_in (with_body m b) d' fs i p row ≡ cell_in m d fs i p row
  cell_in-same m b d d' same none i p rows row below h none_wrong = refl
  cell_in-same m b d d' same (field name nullable metadata k others) zero p rows row below h none_wrong = cell-same m b d d' same k p (rows p) row (below (omega arith)) (same_first m b (looked_at m k p) _ h) (none_first _ _ none_wrong)
  cell_in-same m b d d' same (field name nullable metadata k others) (suc i) p rows row below h none_wrong = cell_in-same m b d d' same others i (after m k p) rows row (λ less. below (omega (arith, less))) (same_second m b (looked_at m k p) _ h) (sound_second _ _ (none_second _ _ none_wrong))

  pub row_of-same : (m : RecordBatch) (b : List ℕ) (d d' : Dictionaries) → SameCells d d' → (fs : Fields) (p : Place) (n row : ℕ) → row < n → AreSame m b (looked_at_in m fs p) → child_faults m d fs p (λ q. n) ≡ [] → row_of (with_body m b) d' fs p row ≡ row_of m d fs p row
  row_of-same m b d d' same none p n row below h none_wrong = refl
  row_of-same m b d d' same (field name nullable metadata k others) p n row below h none_wrong =
      let first = cell-same m b d d' same k p n row below (same_first m b (looked_at m k p) _ h) (none_first _ _ none_wrong) in
      let rest = row_of-same m b d d' same others (after m k p) n row below (same_second m b (looked_at m k p) _ h) (sound_second _ _ (none_second _ _ none_wrong)) in
      ap (λ x. cells.also x (row_of (with_body m b) d' others (after m k p) row)) first ∙ ap (λ xs. cells.also (cell m d k p row) xs) rest
