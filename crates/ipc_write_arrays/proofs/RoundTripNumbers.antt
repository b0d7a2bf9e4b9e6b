-- Columns of numbers mean their cells.
use Rattle.std.proofs.Common.{◌≡◌, ℕ, zero, suc, ◌+◌, ◌*◌, ◌<◌, List, [], ◌∷◌, ◌++◌, length, take, drop, get_or, None, true, pos, refl, ap, subst, ◌∙◌, arith, length-append, length-take, length-drop, reverse}
use Rattle.std.specs.Prelude.{nat_lt, nat_eq}
use Rattle.std.specs.List.{flat_map, list_all}
use Rattle.std.specs.Int.{Width, w8, w16, w32, w64, w128, byte_len, cast_signed}
use Rattle.std.proofs.lemmas.Bool.{and_parts, eqb-true, ltb-true}
use Rattle.std.proofs.lemmas.List.{length-reverse}
use Rattle.std.proofs.lemmas.List.Concat.{flat_map-cons}
use Rattle.arrow_spec.specs.declared.error.IpcError.{IpcError}
use Rattle.arrow_spec.specs.declared.types.IntegerType.TheVariants as integers
use Rattle.arrow_spec.specs.declared.types.IntervalUnit.TheVariants.{YearMonth, DayTime, MonthDayNano}
use Rattle.arrow_spec.specs.Flat.{Order, little, big, num}
use Rattle.arrow_spec.specs.Kinds.{Kind, integer, float, half, single, double, date32, date64, time32, time64, timestamp, duration, interval, decimal, binary, utf8, «list», extension, small, large}
use Rattle.arrow_spec.specs.Held.{Stands}
use Rattle.arrow_spec.specs.Cells as cells
use Rattle.arrow_spec.specs.Cells.{Cell}
use Rattle.arrow_spec.specs.Counts.{RecordBatch, Place}
use Rattle.arrow_spec.specs.Arrays.{Dictionaries, buf, signed_in, unsigned_in, part_of_row, or_0, if_valid}
use Rattle.arrow_spec.specs.Faults.{fixed_faults}
use Rattle.arrow_spec.specs.Framing.{validity_bytes}
use Rattle.arrow_spec.proofs.Standing.{stands_left}
use Rattle.arrow_spec.proofs.Found.{right_at}
use Rattle.arrow_spec.proofs.Bodies.{held_bytes}
use Rattle.arrow_types.specs.Physical.{primitive_size, physical_of}
use Rattle.arrow_types.specs.declared.physical.PhysicalType.{PhysicalType}
use Rattle.arrow_types.specs.declared.physical.PhysicalType.TheVariants as physical
use Rattle.arrow_types.specs.declared.physical.PrimitiveType.{PrimitiveType}
use Rattle.arrow_types.specs.declared.physical.PrimitiveType.TheVariants as primitive
use Rattle.arrow_buffers.specs.Rows.{has_rows, null_rows, masked}
use Rattle.arrow_buffers.specs.Leaf.{Leaf, leaf_cells}
use Rattle.arrow_buffers.proofs.Sound.{leaf_sound}
use Rattle.arrow_arrays.proofs.NumberParts.{leaf_suits}
use Rattle.arrow_arrays.specs.LeafParts.{numbers, unsigned_at, primitive_cell, layout_cell, number_cell, number_size, are_numbers, leaf_fault_in}
use Rattle.arrow_arrays.specs.Parts.{leaf}
use Rattle.ipc_write_laws.specs.Columns.{StandsAt, Means}
use Rattle.ipc_bodies.specs.Pieces.{in_order}
use Rattle.ipc_write_arrays.specs.Pieces.{layout_in_order, column_in}
use Rattle.ipc_write_arrays.proofs.RoundTripHeads.{Shape, extended, means_by, headed, second, cells_told, map_told}
use Rattle.ipc_write_arrays.proofs.RoundTripPlain.{two_of, fixed_right}
use Rattle.ipc_write_arrays.proofs.RoundTripTurned.{by_order, itself, num_same, unsigned_read, halves, thirds}

-- ── items of one size ──

-- item j of pieces of one size stands at j times the size
pub item_stands : {A : Type 0} (f : A → List ℕ) (size : ℕ) (xs : List A) (d : A) (b : List ℕ) (k j : ℕ) → ((i : ℕ) → i < length xs → length (f (get_or xs i d)) ≡ size) → j < length xs → Stands b k (flat_map f xs) → Stands b (k + size * j) (f (get_or xs j d))
item_stands f size [] d b k j wide h s = absurd (omega arith)
item_stands f size (x ∷ xs) d b k zero wide h s =
    let both : Stands b k (f x ++ flat_map f xs) = subst (Stands b k) (flat_map-cons f x xs) s in
    let same : k ≡ k + size * 0 = omega arith in
    subst (λ n. Stands b n (f x)) same (stands_left b k (f x) (flat_map f xs) both)
item_stands f size (x ∷ xs) d b k (suc j) wide h s =
    let both : Stands b k (f x ++ flat_map f xs) = subst (Stands b k) (flat_map-cons f x xs) s in
    let first : length (f x) ≡ size = wide 0 (omega arith) in
    let same : k + size + size * j ≡ k + size * suc j = omega arith in
    subst (λ n. Stands b n (f (get_or xs j d))) same (item_stands f size xs d b (k + size) j (λ i lt. wide (suc i) (omega arith)) (omega arith) (right_at b k (f x) (flat_map f xs) (k + size) (omega arith) both))

-- and they take so many times the size
pub length-items : {A : Type 0} (f : A → List ℕ) (size : ℕ) (xs : List A) (d : A) → ((i : ℕ) → i < length xs → length (f (get_or xs i d)) ≡ size) → length (flat_map f xs) ≡ size * length xs
length-items f size [] d wide = omega arith
length-items f size (x ∷ xs) d wide =
    let first : length (f x) ≡ size = wide 0 (omega arith) in
    let rest : length (flat_map f xs) ≡ size * length xs = length-items f size xs d (λ i lt. wide (suc i) (omega arith)) in
    ap length (flat_map-cons f x xs) ∙ length-append (f x) (flat_map f xs) ∙ omega arith

all_sized : (size : ℕ) (xs : List (List ℕ)) (i : ℕ) → list_all (λ bytes. nat_eq (length bytes) size) xs ≡ true → i < length xs → length (get_or xs i []) ≡ size
all_sized size [] i e h = absurd (omega arith)
all_sized size (x ∷ xs) zero e h = eqb-true (length x) size (and_parts (nat_eq (length x) size) (list_all (λ bytes. nat_eq (length bytes) size) xs) e).0
all_sized size (x ∷ xs) (suc i) e h = all_sized size xs i (and_parts (nat_eq (length x) size) (list_all (λ bytes. nat_eq (length bytes) size) xs) e).1 (omega arith)

-- ── a row's number ──

abbrev primitive_told : PrimitiveType → RecordBatch → Place → ℕ → Cell
primitive_told primitive.Int8 m p row = cells.number (signed_in m w8 (p.buffer + 1) row)
primitive_told primitive.Int16 m p row = cells.number (signed_in m w16 (p.buffer + 1) row)
primitive_told primitive.Int32 m p row = cells.number (signed_in m w32 (p.buffer + 1) row)
primitive_told primitive.Int64 m p row = cells.number (signed_in m w64 (p.buffer + 1) row)
primitive_told primitive.Int128 m p row = cells.number (signed_in m w128 (p.buffer + 1) row)
primitive_told primitive.Int256 m p row = cells.null
primitive_told primitive.UInt8 m p row = cells.number (pos (unsigned_in m w8 (p.buffer + 1) row))
primitive_told primitive.UInt16 m p row = cells.number (pos (unsigned_in m w16 (p.buffer + 1) row))
primitive_told primitive.UInt32 m p row = cells.number (pos (unsigned_in m w32 (p.buffer + 1) row))
primitive_told primitive.UInt64 m p row = cells.number (pos (unsigned_in m w64 (p.buffer + 1) row))
primitive_told primitive.Float16 m p row = cells.null
primitive_told primitive.Float32 m p row = cells.null
primitive_told primitive.Float64 m p row = cells.null
primitive_told primitive.DaysMs m p row = cells.interval (part_of_row m p 8 0 w32 row) (part_of_row m p 8 4 w32 row) (pos 0)
primitive_told primitive.MonthDayNano m p row = cells.interval (part_of_row m p 16 0 w32 row) (part_of_row m p 16 4 w32 row) (part_of_row m p 16 8 w64 row)

abbrev layout_told : PhysicalType → RecordBatch → Place → ℕ → Cell
layout_told (physical.Primitive q) m p row = primitive_told q m p row
layout_told layout m p row = cells.null

-- a row of some bytes, and the number whose turned bytes stand there
record Row (order : Order) (q : PrimitiveType) (m : RecordBatch) (p : Place) (row : ℕ) (x : List ℕ) : Type 0 where
  b : List ℕ
  in_it : m.order ≡ order
  bytes : buf m (p.buffer + 1) ≡ b
  size : length x ≡ primitive_size q
  there : Stands b (primitive_size q * row) (in_order order q x)

unsigned_row : (w : Width) (order : Order) (q : PrimitiveType) (m : RecordBatch) (p : Place) (row : ℕ) (x : List ℕ) → primitive_size q ≡ byte_len w → in_order order q x ≡ by_order order x → Row order q m p row x → unsigned_in m w (p.buffer + 1) row ≡ unsigned_at w 0 x
unsigned_row w order q m p row x e turned r =
    let here : Stands r.b (byte_len w * row) (by_order order x) = subst (λ n. Stands r.b (n * row) (by_order order x)) e (subst (Stands r.b (primitive_size q * row)) turned r.there) in
    unsigned_read w order m (p.buffer + 1) row r.b x r.in_it r.bytes (r.size ∙ e) here

part_read : (w : Width) (order : Order) (m : RecordBatch) (p : Place) (stride at row : ℕ) (b x xs : List ℕ) → m.order ≡ order → buf m (p.buffer + 1) ≡ b → length xs ≡ byte_len w → Stands b (stride * row + at) (by_order order xs) → Stands x at xs → part_of_row m p stride at w row ≡ cast_signed w (or_0 (num x at w little))
part_read w order m p stride at row b x xs o held e s own = rw (held, o) (ap (λ n. cast_signed w (or_0 n)) (num_same w order b x (stride * row + at) at xs e s own))

days_row : (order : Order) (m : RecordBatch) (p : Place) (row : ℕ) (x : List ℕ) → Row order primitive.DaysMs m p row x → primitive_told primitive.DaysMs m p row ≡ primitive_cell primitive.DaysMs x
days_row order m p row x r =
    let there = halves order r.b (8 * row) x r.size r.there in
    let own = halves little x 0 x r.size (itself x) in
    let same : 8 * row ≡ 8 * row + 0 = omega arith in
    let few : length (take 4 x) ≡ 4 = omega (arith, length-take 4 x, r.size) in
    let rest : length (drop 4 x) ≡ 4 = omega (arith, length-drop 4 x, r.size) in
    let days : part_of_row m p 8 0 w32 row ≡ cast_signed w32 (or_0 (num x 0 w32 little)) = part_read w32 order m p 8 0 row r.b x (take 4 x) r.in_it r.bytes few (subst (λ n. Stands r.b n (by_order order (take 4 x))) same there.first) own.first in
    let milliseconds : part_of_row m p 8 4 w32 row ≡ cast_signed w32 (or_0 (num x 4 w32 little)) = part_read w32 order m p 8 4 row r.b x (drop 4 x) r.in_it r.bytes rest there.second own.second in
    ap (λ z. cells.interval z (part_of_row m p 8 4 w32 row) (pos 0)) days ∙ ap (λ z. cells.interval (cast_signed w32 (or_0 (num x 0 w32 little))) z (pos 0)) milliseconds

months_row : (order : Order) (m : RecordBatch) (p : Place) (row : ℕ) (x : List ℕ) → Row order primitive.MonthDayNano m p row x → primitive_told primitive.MonthDayNano m p row ≡ primitive_cell primitive.MonthDayNano x
months_row order m p row x r =
    let there = thirds order r.b (16 * row) x r.size r.there in
    let own = thirds little x 0 x r.size (itself x) in
    let same : 16 * row ≡ 16 * row + 0 = omega arith in
    let few : length (take 4 x) ≡ 4 = omega (arith, length-take 4 x, r.size) in
    let more : length (take 4 (drop 4 x)) ≡ 4 = omega (arith, length-take 4 (drop 4 x), length-drop 4 x, r.size) in
    let rest : length (drop 8 x) ≡ 8 = omega (arith, length-drop 8 x, r.size) in
    let months : part_of_row m p 16 0 w32 row ≡ cast_signed w32 (or_0 (num x 0 w32 little)) = part_read w32 order m p 16 0 row r.b x (take 4 x) r.in_it r.bytes few (subst (λ n. Stands r.b n (by_order order (take 4 x))) same there.first) own.first in
    let days : part_of_row m p 16 4 w32 row ≡ cast_signed w32 (or_0 (num x 4 w32 little)) = part_read w32 order m p 16 4 row r.b x (take 4 (drop 4 x)) r.in_it r.bytes more there.second own.second in
    let ns : part_of_row m p 16 8 w64 row ≡ cast_signed w64 (or_0 (num x 8 w64 little)) = part_read w64 order m p 16 8 row r.b x (drop 8 x) r.in_it r.bytes rest there.third own.third in
    ap (λ z. cells.interval z (part_of_row m p 16 4 w32 row) (part_of_row m p 16 8 w64 row)) months
    ∙ ap (λ z. cells.interval (cast_signed w32 (or_0 (num x 0 w32 little))) z (part_of_row m p 16 8 w64 row)) days
    ∙ ap (cells.interval (cast_signed w32 (or_0 (num x 0 w32 little))) (cast_signed w32 (or_0 (num x 4 w32 little)))) ns

signed_row : (w : Width) (order : Order) (q : PrimitiveType) (m : RecordBatch) (p : Place) (row : ℕ) (x : List ℕ) → primitive_size q ≡ byte_len w → in_order order q x ≡ by_order order x → Row order q m p row x → cells.number (signed_in m w (p.buffer + 1) row) ≡ cells.number (cast_signed w (unsigned_at w 0 x))
signed_row w order q m p row x e turned r = ap (λ n. cells.number (cast_signed w n)) (unsigned_row w order q m p row x e turned r)

natural_row : (w : Width) (order : Order) (q : PrimitiveType) (m : RecordBatch) (p : Place) (row : ℕ) (x : List ℕ) → primitive_size q ≡ byte_len w → in_order order q x ≡ by_order order x → Row order q m p row x → cells.number (pos (unsigned_in m w (p.buffer + 1) row)) ≡ cells.number (pos (unsigned_at w 0 x))
natural_row w order q m p row x e turned r = ap (λ n. cells.number (pos n)) (unsigned_row w order q m p row x e turned r)

primitive_row : (order : Order) (q : PrimitiveType) (m : RecordBatch) (p : Place) (row : ℕ) (x : List ℕ) → Row order q m p row x → primitive_told q m p row ≡ primitive_cell q x
primitive_row little primitive.Int8 m p row x r = signed_row w8 little primitive.Int8 m p row x refl refl r
primitive_row little primitive.Int16 m p row x r = signed_row w16 little primitive.Int16 m p row x refl refl r
primitive_row little primitive.Int32 m p row x r = signed_row w32 little primitive.Int32 m p row x refl refl r
primitive_row little primitive.Int64 m p row x r = signed_row w64 little primitive.Int64 m p row x refl refl r
primitive_row little primitive.Int128 m p row x r = signed_row w128 little primitive.Int128 m p row x refl refl r
primitive_row little primitive.UInt8 m p row x r = natural_row w8 little primitive.UInt8 m p row x refl refl r
primitive_row little primitive.UInt16 m p row x r = natural_row w16 little primitive.UInt16 m p row x refl refl r
primitive_row little primitive.UInt32 m p row x r = natural_row w32 little primitive.UInt32 m p row x refl refl r
primitive_row little primitive.UInt64 m p row x r = natural_row w64 little primitive.UInt64 m p row x refl refl r
primitive_row big primitive.Int8 m p row x r = signed_row w8 big primitive.Int8 m p row x refl refl r
primitive_row big primitive.Int16 m p row x r = signed_row w16 big primitive.Int16 m p row x refl refl r
primitive_row big primitive.Int32 m p row x r = signed_row w32 big primitive.Int32 m p row x refl refl r
primitive_row big primitive.Int64 m p row x r = signed_row w64 big primitive.Int64 m p row x refl refl r
primitive_row big primitive.Int128 m p row x r = signed_row w128 big primitive.Int128 m p row x refl refl r
primitive_row big primitive.UInt8 m p row x r = natural_row w8 big primitive.UInt8 m p row x refl refl r
primitive_row big primitive.UInt16 m p row x r = natural_row w16 big primitive.UInt16 m p row x refl refl r
primitive_row big primitive.UInt32 m p row x r = natural_row w32 big primitive.UInt32 m p row x refl refl r
primitive_row big primitive.UInt64 m p row x r = natural_row w64 big primitive.UInt64 m p row x refl refl r
primitive_row order primitive.DaysMs m p row x r = days_row order m p row x r
primitive_row order primitive.MonthDayNano m p row x r = months_row order m p row x r
primitive_row order primitive.Int256 m p row x r = refl
primitive_row order primitive.Float16 m p row x r = refl
primitive_row order primitive.Float32 m p row x r = refl
primitive_row order primitive.Float64 m p row x r = refl

-- ── columns ──

-- turning keeps the length
length-in_order : (order : Order) (q : PrimitiveType) (x : List ℕ) → length (in_order order q x) ≡ length x
length-in_order little q x = refl
length-in_order big primitive.DaysMs x = omega (arith, length-append (reverse (take 4 x)) (reverse (drop 4 x)), length-reverse (take 4 x), length-reverse (drop 4 x), length-take 4 x, length-drop 4 x)
length-in_order big primitive.MonthDayNano x =
    omega (arith, length-append (reverse (take 4 x) ++ reverse (take 4 (drop 4 x))) (reverse (drop 8 x)), length-append (reverse (take 4 x)) (reverse (take 4 (drop 4 x))), length-reverse (take 4 x), length-reverse (take 4 (drop 4 x)), length-reverse (drop 8 x), length-take 4 x, length-take 4 (drop 4 x), length-drop 4 x, length-drop 8 x)
length-in_order big q x = length-reverse x

abbrev number_faults : PhysicalType → RecordBatch → Place → ℕ → List IpcError
number_faults l m p n = fixed_faults m p (number_size l) n

abbrev number_row : PhysicalType → RecordBatch → Place → ℕ → Cell
number_row l m p row = if_valid m p row (layout_told l m p row)

number_shape : (d : Dictionaries) (k : Kind) → 0 < number_size (physical_of k) → Shape d k 0 two_of (number_faults (physical_of k)) (number_row (physical_of k))
number_shape d (integer integers.Int8) e = record { node = refl; view = refl; buffer = λ m p. refl; empty = λ m p. refl; some = λ m p n. refl; row = λ m p row. refl }
number_shape d (integer integers.Int16) e = record { node = refl; view = refl; buffer = λ m p. refl; empty = λ m p. refl; some = λ m p n. refl; row = λ m p row. refl }
number_shape d (integer integers.Int32) e = record { node = refl; view = refl; buffer = λ m p. refl; empty = λ m p. refl; some = λ m p n. refl; row = λ m p row. refl }
number_shape d (integer integers.Int64) e = record { node = refl; view = refl; buffer = λ m p. refl; empty = λ m p. refl; some = λ m p n. refl; row = λ m p row. refl }
number_shape d (integer integers.Int128) e = record { node = refl; view = refl; buffer = λ m p. refl; empty = λ m p. refl; some = λ m p n. refl; row = λ m p row. refl }
number_shape d (integer integers.UInt8) e = record { node = refl; view = refl; buffer = λ m p. refl; empty = λ m p. refl; some = λ m p n. refl; row = λ m p row. refl }
number_shape d (integer integers.UInt16) e = record { node = refl; view = refl; buffer = λ m p. refl; empty = λ m p. refl; some = λ m p n. refl; row = λ m p row. refl }
number_shape d (integer integers.UInt32) e = record { node = refl; view = refl; buffer = λ m p. refl; empty = λ m p. refl; some = λ m p n. refl; row = λ m p row. refl }
number_shape d (integer integers.UInt64) e = record { node = refl; view = refl; buffer = λ m p. refl; empty = λ m p. refl; some = λ m p n. refl; row = λ m p row. refl }
number_shape d date32 e = record { node = refl; view = refl; buffer = λ m p. refl; empty = λ m p. refl; some = λ m p n. refl; row = λ m p row. refl }
number_shape d date64 e = record { node = refl; view = refl; buffer = λ m p. refl; empty = λ m p. refl; some = λ m p n. refl; row = λ m p row. refl }
number_shape d (time32 u) e = record { node = refl; view = refl; buffer = λ m p. refl; empty = λ m p. refl; some = λ m p n. refl; row = λ m p row. refl }
number_shape d (time64 u) e = record { node = refl; view = refl; buffer = λ m p. refl; empty = λ m p. refl; some = λ m p n. refl; row = λ m p row. refl }
number_shape d (timestamp u tz) e = record { node = refl; view = refl; buffer = λ m p. refl; empty = λ m p. refl; some = λ m p n. refl; row = λ m p row. refl }
number_shape d (duration u) e = record { node = refl; view = refl; buffer = λ m p. refl; empty = λ m p. refl; some = λ m p n. refl; row = λ m p row. refl }
number_shape d (interval YearMonth) e = record { node = refl; view = refl; buffer = λ m p. refl; empty = λ m p. refl; some = λ m p n. refl; row = λ m p row. refl }
number_shape d (interval DayTime) e = record { node = refl; view = refl; buffer = λ m p. refl; empty = λ m p. refl; some = λ m p n. refl; row = λ m p row. refl }
number_shape d (interval MonthDayNano) e = record { node = refl; view = refl; buffer = λ m p. refl; empty = λ m p. refl; some = λ m p n. refl; row = λ m p row. refl }
number_shape d (decimal precision scale) e = record { node = refl; view = refl; buffer = λ m p. refl; empty = λ m p. refl; some = λ m p n. refl; row = λ m p row. refl }
number_shape d (extension name metadata k) e = extended d name metadata k 0 two_of (number_faults (physical_of k)) (number_row (physical_of k)) (number_shape d k e)
number_shape d (float half) e = absurd (omega arith)
number_shape d (float single) e = absurd (omega arith)
number_shape d (float double) e = absurd (omega arith)
number_shape d (binary small) e = absurd (omega arith)
number_shape d (binary large) e = absurd (omega arith)
number_shape d (utf8 small) e = absurd (omega arith)
number_shape d (utf8 large) e = absurd (omega arith)
number_shape d («list» small fs) e = absurd (omega arith)
number_shape d («list» large fs) e = absurd (omega arith)
number_shape d k e = absurd (omega arith)

-- what a layout of numbers says of each of them
record Sized (order : Order) (l : PhysicalType) (values : List (List ℕ)) : Type 0 where
  wide : (i : ℕ) → i < length values → length (layout_in_order order l (get_or values i [])) ≡ number_size l
  told : (m : RecordBatch) (p : Place) (row : ℕ) → m.order ≡ order → buf m (p.buffer + 1) ≡ flat_map (layout_in_order order l) values → row < length values → layout_told l m p row ≡ layout_cell l (get_or values row [])

primitive_sized : (order : Order) (q : PrimitiveType) (values : List (List ℕ)) → ((i : ℕ) → i < length values → length (get_or values i []) ≡ primitive_size q) → Sized order (physical.Primitive q) values
primitive_sized order q values sized =
    let wide : (i : ℕ) → i < length values → length (in_order order q (get_or values i [])) ≡ primitive_size q = λ i lt. length-in_order order q (get_or values i []) ∙ sized i lt in
    let all = flat_map (in_order order q) values in
    let there : (row : ℕ) → row < length values → Stands all (primitive_size q * row) (in_order order q (get_or values row [])) = λ row lt.
    let same : 0 + primitive_size q * row ≡ primitive_size q * row = omega arith in
    subst (λ n. Stands all n (in_order order q (get_or values row []))) same (item_stands (in_order order q) (primitive_size q) values [] all 0 row wide lt (itself all)) in
    record {
      wide = wide;
      told = λ m p row o held lt. primitive_row order q m p row (get_or values row []) (record { b = all; in_it = o; bytes = held; size = sized row lt; there = there row lt });
    }

layout_sized : (order : Order) (l : PhysicalType) (values : List (List ℕ)) → 0 < number_size l → ((i : ℕ) → i < length values → length (get_or values i []) ≡ number_size l) → Sized order l values
layout_sized order (physical.Primitive q) values above sized = primitive_sized order q values sized
layout_sized order l values above sized = absurd (omega arith)

pub numbers_mean : (order : Order) (d : Dictionaries) (f : Leaf (List ℕ)) → leaf_fault_in (numbers f) ≡ None → Means order d (length f.values) (column_in order (leaf (numbers f)))
numbers_mean order d f e =
    let rows = length f.values in
    let l = physical_of f.kind in
    let suits = are_numbers (number_size l) f.values in
    let fit : has_rows f.validity rows ≡ true = leaf_sound suits rows f.validity e in
    let tests = and_parts (nat_lt 0 (number_size l)) (list_all (λ bytes. nat_eq (length bytes) (number_size l)) f.values) (leaf_suits suits rows f.validity e) in
    let above : 0 < number_size l = ltb-true 0 (number_size l) tests.0 in
    let s : Sized order l f.values = layout_sized order l f.values above (λ i lt. all_sized (number_size l) f.values i tests.1 lt) in
    let bytes = flat_map (layout_in_order order l) f.values in
    let xs = leaf_cells (number_cell f.kind) f in
    let long : length bytes ≡ number_size l * rows = length-items (layout_in_order order l) (number_size l) f.values [] s.wide in
    let head = λ (m : RecordBatch) (p : Place) (here : StandsAt m p (column_in order (leaf (numbers f)))). headed m p f.kind rows f.validity (bytes ∷ []) [] xs fit here in
    let held = λ (m : RecordBatch) (p : Place) (here : StandsAt m p (column_in order (leaf (numbers f)))). second m p f.kind rows (null_rows f.validity) (validity_bytes f.validity) bytes [] [] xs here in
    means_by d f.kind 0 two_of (number_faults l) (number_row l) order rows (null_rows f.validity) (validity_bytes f.validity ∷ bytes ∷ []) [] xs (number_shape d f.kind above) refl (λ m p here. refl)
    (λ m p o here few. fixed_right m p (number_size l) rows f.validity bytes (head m p here) (held m p here) (omega arith))
    (λ m p o here.
    cells_told m p rows f.validity (number_row l m p) (layout_told l m p) (λ row. number_cell f.kind (get_or f.values row [])) (head m p here) (λ row. refl)
    (λ row lt v. s.told m p row o (held_bytes m (p.buffer + 1) bytes (held m p here)) lt)
    ∙ ap (masked f.validity) (map_told (number_cell f.kind) f.values []))
