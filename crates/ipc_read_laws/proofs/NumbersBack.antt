-- A number that is read and held as its bytes is the number that the record batch has.
use Rattle.std.proofs.Common.{◌≡◌, ℕ, suc, ◌+◌, ◌*◌, ◌<◌, ◌≤◌, List, length, take, drop, ℤ, pos, refl, sym, ap, ◌∙◌, arith}
use Rattle.std.specs.Int.{Width, w8, w16, w32, w64, w128, byte_len, cast_signed}
use Rattle.std.proofs.lemmas.Int.{of_z-to_z}
use Rattle.std.proofs.lemmas.List.{drop-take, drop-drop}
use Rattle.arrow_spec.specs.Flat.{Order, little, num, from_bytes}
use Rattle.arrow_spec.specs.Kinds.{Kind}
use Rattle.arrow_spec.specs.Cells.{number, interval}
use Rattle.arrow_spec.specs.Counts.{RecordBatch, Place}
use Rattle.arrow_spec.specs.Arrays.{buf, or_0, signed_in, unsigned_in, part_of_row}
use Rattle.arrow_spec.specs.Laws.{AreBytes}
use Rattle.arrow_types.specs.Numbers.{signed_to_bytes, signed_from_bytes, unsigned_to_bytes, unsigned_from_bytes}
use Rattle.arrow_types.specs.NumberLaws.{unsigned_back, unsigned_agrees}
use Rattle.arrow_types.specs.BytesBack.{number_fits, take_bytes, drop_bytes}
use Rattle.arrow_types.specs.declared.physical.PrimitiveType.{PrimitiveType}
use Rattle.arrow_types.specs.declared.physical.PrimitiveType.TheVariants as primitive
use Rattle.arrow_buffers.proofs.Parts.{part-part}
use Rattle.arrow_arrays.specs.LeafParts.{as_bytes, primitive_cell}
use Rattle.arrow_types.specs.Physical.{primitive_size}
use Rattle.ipc_read_laws.specs.PartsRead.{number_read, item_bytes, primitive_read}
use Rattle.ipc_read_laws.proofs.Buffers.{map-from_on}
use Rattle.ipc_read_laws.proofs.KindCases.{primitive_at}

unsigned_again : (w : Width) (order : Order) (bytes : List ℕ) → AreBytes bytes → unsigned_from_bytes w little (unsigned_to_bytes w little (unsigned_from_bytes w order bytes)) ≡ unsigned_from_bytes w order bytes
unsigned_again w order bytes h = unsigned_back w little (unsigned_from_bytes w order bytes) (number_fits w order bytes h)

signed_again : (w : Width) (order : Order) (bytes : List ℕ) → AreBytes bytes → signed_from_bytes w little (signed_to_bytes w little (signed_from_bytes w order bytes)) ≡ signed_from_bytes w order bytes
signed_again w order bytes h =
    let n = from_bytes order w bytes in
    let fits = number_fits w order bytes h in
    ap (λ k. signed_from_bytes w little (unsigned_to_bytes w little k)) (of_z-to_z w n fits) ∙ ap (cast_signed w) (unsigned_back w little n fits)

-- ── numbers in a buffer ──

number_at : (w : Width) (bytes : List ℕ) (at : ℕ) (order : Order) → at + byte_len w ≤ length bytes → or_0 (num bytes at w order) ≡ from_bytes order w (take (byte_len w) (drop at bytes))
number_at w bytes at order h = ap or_0 (unsigned_agrees w bytes at order h)

pub item_inside : (size row rows n : ℕ) → row < rows → size * rows ≤ n → size * row + size ≤ n
item_inside size row rows n h k =
    let s : suc row ≤ rows = h in
    grind (arith, s, k)

-- the bytes of an item are those of the buffer
item_part : (m : RecordBatch) (i size row at n : ℕ) → at + n ≤ size → take n (drop at (item_bytes m i size row)) ≡ take n (drop (size * row + at) (buf m i))
item_part m i size row at n h = sym (part-part (buf m i) (size * row) size at n h)

item_end : (m : RecordBatch) (i size row at n : ℕ) → at + n ≡ size → drop at (item_bytes m i size row) ≡ take n (drop (size * row + at) (buf m i))
item_end m i size row at n e = ap (λ k. drop at (take k (drop (size * row) (buf m i)))) (sym e) ∙ drop-take at n (drop (size * row) (buf m i)) ∙ ap (take n) (drop-drop at (size * row) (buf m i))

item_start : (m : RecordBatch) (i size row n : ℕ) → n ≤ size → take n (item_bytes m i size row) ≡ take n (drop (size * row + 0) (buf m i))
item_start m i size row n h = item_part m i size row 0 n (omega (arith, h))

-- an unsigned number, and a signed one
unsigned_told : (w : Width) (m : RecordBatch) (i row rows : ℕ) → AreBytes (item_bytes m i (byte_len w) row) → row < rows → byte_len w * rows ≤ length (buf m i) → unsigned_from_bytes w little (unsigned_to_bytes w little (unsigned_from_bytes w m.order (item_bytes m i (byte_len w) row))) ≡ unsigned_in m w i row
unfolding unsigned_in
unsigned_told w m i row rows b h l = unsigned_again w m.order (item_bytes m i (byte_len w) row) b ∙ sym (number_at w (buf m i) (byte_len w * row) m.order (item_inside (byte_len w) row rows (length (buf m i)) h l))

signed_told : (w : Width) (m : RecordBatch) (i row rows : ℕ) → AreBytes (item_bytes m i (byte_len w) row) → row < rows → byte_len w * rows ≤ length (buf m i) → signed_from_bytes w little (signed_to_bytes w little (signed_from_bytes w m.order (item_bytes m i (byte_len w) row))) ≡ signed_in m w i row
unfolding unsigned_in
signed_told w m i row rows b h l = signed_again w m.order (item_bytes m i (byte_len w) row) b ∙ ap (cast_signed w) (sym (number_at w (buf m i) (byte_len w * row) m.order (item_inside (byte_len w) row rows (length (buf m i)) h l)))

-- a number inside a row's bytes
part_told : (w : Width) (m : RecordBatch) (p : Place) (size at row rows : ℕ) (bytes : List ℕ) → AreBytes bytes → row < rows → size * rows ≤ length (buf m (p.buffer + 1)) → at + byte_len w ≤ size → bytes ≡ take (byte_len w) (drop (size * row + at) (buf m (p.buffer + 1))) → signed_from_bytes w little (signed_to_bytes w little (signed_from_bytes w m.order bytes)) ≡ part_of_row m p size at w row
part_told w m p size at row rows bytes b h l k e =
    let inside : size * row + at + byte_len w ≤ length (buf m (p.buffer + 1)) = omega (arith, item_inside size row rows (length (buf m (p.buffer + 1))) h l, k) in
    signed_again w m.order bytes b ∙ ap (λ x. signed_from_bytes w m.order x) e ∙ ap (cast_signed w) (sym (number_at w (buf m (p.buffer + 1)) (size * row + at) m.order inside))

-- the cell of a number that was read is the one that the record batch has in the row
pub number_cell-read : (t : PrimitiveType) (m : RecordBatch) (p : Place) (row rows : ℕ) → AreBytes (item_bytes m (p.buffer + 1) (primitive_size t) row) → row < rows → primitive_size t * rows ≤ length (buf m (p.buffer + 1)) → primitive_cell t (number_read t m.order (item_bytes m (p.buffer + 1) (primitive_size t) row)) ≡ primitive_at t m p row
number_cell-read primitive.Int8 m p row rows b h l = ap number (signed_told w8 m (p.buffer + 1) row rows b h l)
number_cell-read primitive.Int16 m p row rows b h l = ap number (signed_told w16 m (p.buffer + 1) row rows b h l)
number_cell-read primitive.Int32 m p row rows b h l = ap number (signed_told w32 m (p.buffer + 1) row rows b h l)
number_cell-read primitive.Int64 m p row rows b h l = ap number (signed_told w64 m (p.buffer + 1) row rows b h l)
number_cell-read primitive.Int128 m p row rows b h l = ap number (signed_told w128 m (p.buffer + 1) row rows b h l)
number_cell-read primitive.Int256 m p row rows b h l = refl
number_cell-read primitive.UInt8 m p row rows b h l = ap (λ n. number (pos n)) (unsigned_told w8 m (p.buffer + 1) row rows b h l)
number_cell-read primitive.UInt16 m p row rows b h l = ap (λ n. number (pos n)) (unsigned_told w16 m (p.buffer + 1) row rows b h l)
number_cell-read primitive.UInt32 m p row rows b h l = ap (λ n. number (pos n)) (unsigned_told w32 m (p.buffer + 1) row rows b h l)
number_cell-read primitive.UInt64 m p row rows b h l = ap (λ n. number (pos n)) (unsigned_told w64 m (p.buffer + 1) row rows b h l)
number_cell-read primitive.Float16 m p row rows b h l = refl
number_cell-read primitive.Float32 m p row rows b h l = refl
number_cell-read primitive.Float64 m p row rows b h l = refl
number_cell-read primitive.DaysMs m p row rows b h l =
    let i = p.buffer + 1 in
    let d = part_told w32 m p 8 0 row rows (take 4 (item_bytes m i 8 row)) (take_bytes 4 (item_bytes m i 8 row) b) h l (omega arith) (item_start m i 8 row 4 (omega arith)) in
    let s = part_told w32 m p 8 4 row rows (drop 4 (item_bytes m i 8 row)) (drop_bytes 4 (item_bytes m i 8 row) b) h l (omega arith) (item_end m i 8 row 4 4 refl) in
    ap (λ x. interval x (signed_from_bytes w32 little (signed_to_bytes w32 little (signed_from_bytes w32 m.order (drop 4 (item_bytes m i 8 row))))) (pos 0)) d ∙ ap (λ x. interval (part_of_row m p 8 0 w32 row) x (pos 0)) s
number_cell-read primitive.MonthDayNano m p row rows b h l =
    let i = p.buffer + 1 in
    let back : (w : Width) → List ℕ → ℤ = λ w bytes. signed_from_bytes w little (signed_to_bytes w little (signed_from_bytes w m.order bytes)) in
    let x = part_told w32 m p 16 0 row rows (take 4 (item_bytes m i 16 row)) (take_bytes 4 (item_bytes m i 16 row) b) h l (omega arith) (item_start m i 16 row 4 (omega arith)) in
    let y = part_told w32 m p 16 4 row rows (take 4 (drop 4 (item_bytes m i 16 row))) (take_bytes 4 (drop 4 (item_bytes m i 16 row)) (drop_bytes 4 (item_bytes m i 16 row) b)) h l (omega arith) (item_part m i 16 row 4 4 (omega arith)) in
    let z = part_told w64 m p 16 8 row rows (drop 8 (item_bytes m i 16 row)) (drop_bytes 8 (item_bytes m i 16 row) b) h l (omega arith) (item_end m i 16 row 8 8 refl) in
    ap (λ v. interval v (back w32 (take 4 (drop 4 (item_bytes m i 16 row)))) (back w64 (drop 8 (item_bytes m i 16 row)))) x
    ∙ ap (λ v. interval (part_of_row m p 16 0 w32 row) v (back w64 (drop 8 (item_bytes m i 16 row)))) y
    ∙ ap (interval (part_of_row m p 16 0 w32 row) (part_of_row m p 16 4 w32 row)) z

-- numbers that are read and then taken as their bytes
pub as_bytes-read : {A : Type 0} (write : A → List ℕ) (read : Order → List ℕ → A) (size : ℕ) (m : RecordBatch) (k : Kind) (p : Place) (rows : ℕ) → as_bytes write (primitive_read read size m k p rows) ≡ primitive_read (λ order bytes. write (read order bytes)) size m k p rows
as_bytes-read write read size m k p rows = rw (map-from_on write (λ j. read m.order (item_bytes m (p.buffer + 1) size j)) 0 rows) refl

-- it has as many bytes as its type takes
pub number_size-read : (t : PrimitiveType) (order : Order) (bytes : List ℕ) → length (number_read t order bytes) ≡ primitive_size t
number_size-read primitive.Int8 order bytes = refl
number_size-read t order bytes = refl
