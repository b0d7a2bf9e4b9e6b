-- Columns of nulls, of bits and of byte strings of one size mean their cells.
use Rattle.std.proofs.Common.{◌≡◌, ℕ, zero, suc, ◌+◌, ◌*◌, ◌/◌, ◌%◌, ◌≤◌, ◌<◌, List, [], ◌∷◌, ◌++◌, length, map, take, drop, get_or, Option, None, Bool, true, false, refl, ap, ◌∙◌, arith, replicate}
use Rattle.std.specs.Prelude.{nat_lt}
use Rattle.std.proofs.lemmas.Bool.{le-ltb}
use Rattle.arrow_spec.specs.declared.error.IpcError.{IpcError}
use Rattle.arrow_spec.specs.Flat.{Order}
use Rattle.arrow_spec.specs.Kinds.{Kind, null, boolean, binary, utf8, «list», fixed_size_binary, extension, small, large}
use Rattle.arrow_spec.specs.Cells as cells
use Rattle.arrow_spec.specs.Cells.{Cell}
use Rattle.arrow_spec.specs.Counts.{RecordBatch, Place}
use Rattle.arrow_spec.specs.Arrays.{Dictionaries, bit, buf, if_valid, from_on}
use Rattle.arrow_spec.specs.Faults.{bitmap_faults, validity_faults, numbers_faults, fixed_faults}
use Rattle.arrow_spec.specs.Framing.{packed}
use Rattle.arrow_spec.specs.Framing.{validity_bytes}
use Rattle.arrow_spec.proofs.PackedBits.{packed_bit, length-packed}
use Rattle.arrow_spec.proofs.Bodies.{held_bytes, held_faults}
use Rattle.arrow_spec.specs.Bodies.{BufferHeld}
use Rattle.arrow_types.specs.Physical.{physical_of}
use Rattle.arrow_buffers.specs.Rows.{has_rows, null_rows, masked}
use Rattle.arrow_buffers.specs.Layouts.{is_null, is_boolean, binary_size}
use Rattle.arrow_buffers.specs.Leaf.{Leaf, Nulls, null_cells, leaf_cells, nulls_fault, fixed_rows, fixed_row, fixed_cells}
use Rattle.arrow_buffers.proofs.Sound.{leaf_sound, fixed_sound}
use Rattle.arrow_arrays.proofs.NumberParts.{leaf_suits}
use Rattle.arrow_arrays.specs.LeafParts.{nulls, bits, fixed, leaf_fault_in}
use Rattle.arrow_arrays.specs.Parts.{leaf}
use Rattle.ipc_write_laws.specs.Columns.{Means}
use Rattle.ipc_write_arrays.specs.Pieces.{column_in}
use Rattle.ipc_write_arrays.proofs.RoundTripHeads.{Headed, Shape, extended, means_by, headed, second, cells_told, map_told, validity_right}

-- ── nulls ──

abbrev none_of : RecordBatch → Place → ℕ
none_of m p = 0

abbrev nothing : RecordBatch → Place → ℕ → List IpcError
nothing m p n = []

abbrev null_row : RecordBatch → Place → ℕ → Cell
null_row m p row = cells.null

null_shape : (d : Dictionaries) (k : Kind) → is_null (physical_of k) ≡ true → Shape d k 0 none_of nothing null_row
null_shape d null e = record { node = refl; view = refl; buffer = λ m p. refl; empty = λ m p. refl; some = λ m p n. refl; row = λ m p row. refl }
null_shape d (extension name metadata k) e = extended d name metadata k 0 none_of nothing null_row (null_shape d k e)
null_shape d (binary small) e = cc
null_shape d (binary large) e = cc
null_shape d (utf8 small) e = cc
null_shape d (utf8 large) e = cc
null_shape d («list» small fs) e = cc
null_shape d («list» large fs) e = cc
null_shape d k e = cc

null_suits : (s : Bool) → nulls_fault s ≡ None → s ≡ true
null_suits true e = refl
null_suits false e = cc

null_rows_told : (i n : ℕ) → from_on (λ row. cells.null) i n ≡ replicate n cells.null
null_rows_told i zero = refl
null_rows_told i (suc n) = ap (λ r. cells.null ∷ r) (null_rows_told (suc i) n)

pub nulls_mean : (order : Order) (d : Dictionaries) (x : Nulls) → leaf_fault_in (nulls x) ≡ None → Means order d x.rows (column_in order (leaf (nulls x)))
nulls_mean order d x e =
    means_by d x.kind 0 none_of nothing null_row order x.rows x.rows [] [] (null_cells x) (null_shape d x.kind (null_suits (is_null (physical_of x.kind)) e)) refl (λ m p s. refl) (λ m p o s few. refl) (λ m p o s. null_rows_told 0 x.rows)

-- ── bits ──

-- a validity and values
abbrev pub two_of : RecordBatch → Place → ℕ
two_of m p = 2

abbrev bits_faults : RecordBatch → Place → ℕ → List IpcError
bits_faults m p n = validity_faults m p n ++ bitmap_faults m (p.buffer + 1) n

abbrev bit_cell : RecordBatch → Place → ℕ → Cell
bit_cell m p row = cells.bool (bit (buf m (p.buffer + 1)) row)

abbrev bit_row : RecordBatch → Place → ℕ → Cell
bit_row m p row = if_valid m p row (bit_cell m p row)

bits_shape : (d : Dictionaries) (k : Kind) → is_boolean (physical_of k) ≡ true → Shape d k 0 two_of bits_faults bit_row
bits_shape d boolean e = record { node = refl; view = refl; buffer = λ m p. refl; empty = λ m p. refl; some = λ m p n. refl; row = λ m p row. refl }
bits_shape d (extension name metadata k) e = extended d name metadata k 0 two_of bits_faults bit_row (bits_shape d k e)
bits_shape d (binary small) e = cc
bits_shape d (binary large) e = cc
bits_shape d (utf8 small) e = cc
bits_shape d (utf8 large) e = cc
bits_shape d («list» small fs) e = cc
bits_shape d («list» large fs) e = cc
bits_shape d k e = cc

bitmap_right : (m : RecordBatch) (i : ℕ) (values : List Bool) → BufferHeld m i (packed values) → bitmap_faults m i (length values) ≡ []
unfolding bitmap_faults
bitmap_right m i values h =
    let enough : nat_lt (8 * length (packed values)) (length values) ≡ false = le-ltb _ _ (omega (arith, length-packed values)) in
    rw (held_faults m i (packed values) h, h.range, enough) refl

bits_right : (m : RecordBatch) (p : Place) (values : List Bool) (v : Option (List Bool)) → Headed m p (length values) v → BufferHeld m (p.buffer + 1) (packed values) → bits_faults m p (length values) ≡ []
bits_right m p values v h b = rw (validity_right m p (length values) v h, bitmap_right m (p.buffer + 1) values b) refl

bits_read : (m : RecordBatch) (p : Place) (values : List Bool) (v : Option (List Bool)) → Headed m p (length values) v → BufferHeld m (p.buffer + 1) (packed values) → from_on (bit_row m p) 0 (length values) ≡ masked v (map cells.bool values)
bits_read m p values v h b =
    cells_told m p (length values) v (bit_row m p) (bit_cell m p) (λ row. cells.bool (get_or values row false)) h (λ row. refl)
    (λ row lt e. ap (λ bytes. cells.bool (bit bytes row)) (held_bytes m (p.buffer + 1) (packed values) b) ∙ ap cells.bool (packed_bit values row lt))
    ∙ ap (masked v) (map_told cells.bool values false)

pub bits_mean : (order : Order) (d : Dictionaries) (f : Leaf Bool) → leaf_fault_in (bits f) ≡ None → Means order d (length f.values) (column_in order (leaf (bits f)))
bits_mean order d f e =
    let rows = length f.values in
    let suits = is_boolean (physical_of f.kind) in
    let fit : has_rows f.validity rows ≡ true = leaf_sound suits rows f.validity e in
    means_by d f.kind 0 two_of bits_faults bit_row order rows (null_rows f.validity) (validity_bytes f.validity ∷ packed f.values ∷ []) [] (leaf_cells cells.bool f) (bits_shape d f.kind (leaf_suits suits rows f.validity e)) refl (λ m p s. refl)
    (λ m p o s few. bits_right m p f.values f.validity (headed m p f.kind rows f.validity (packed f.values ∷ []) [] (leaf_cells cells.bool f) fit s) (second m p f.kind rows (null_rows f.validity) (validity_bytes f.validity) (packed f.values) [] [] (leaf_cells cells.bool f) s))
    (λ m p o s. bits_read m p f.values f.validity (headed m p f.kind rows f.validity (packed f.values ∷ []) [] (leaf_cells cells.bool f) fit s) (second m p f.kind rows (null_rows f.validity) (validity_bytes f.validity) (packed f.values) [] [] (leaf_cells cells.bool f) s))

-- ── byte strings of one size ──

-- numbers of a width, so many of them
pub numbers_right : (m : RecordBatch) (i width rows : ℕ) (bytes : List ℕ) → BufferHeld m i bytes → width * rows ≤ length bytes → numbers_faults m i width rows ≡ []
unfolding numbers_faults
numbers_right m i width rows bytes h le =
    let enough : nat_lt (length bytes) (width * rows) ≡ false = le-ltb _ _ le in
    rw (held_faults m i bytes h, h.range, enough) refl

pub fixed_right : (m : RecordBatch) (p : Place) (width rows : ℕ) (v : Option (List Bool)) (bytes : List ℕ) → Headed m p rows v → BufferHeld m (p.buffer + 1) bytes → width * rows ≤ length bytes → fixed_faults m p width rows ≡ []
fixed_right m p width rows v bytes h b le = rw (validity_right m p rows v h, numbers_right m (p.buffer + 1) width rows bytes b le) refl

abbrev string_faults : ℕ → RecordBatch → Place → ℕ → List IpcError
string_faults size m p n = fixed_faults m p size n

abbrev string_cell : ℕ → RecordBatch → Place → ℕ → Cell
string_cell size m p row = cells.bytes (take size (drop (size * row) (buf m (p.buffer + 1))))

abbrev string_row : ℕ → RecordBatch → Place → ℕ → Cell
string_row size m p row = if_valid m p row (string_cell size m p row)

string_shape : (d : Dictionaries) (k : Kind) → 0 < binary_size k → Shape d k 0 two_of (string_faults (binary_size k)) (string_row (binary_size k))
string_shape d (fixed_size_binary n) e = record { node = refl; view = refl; buffer = λ m p. refl; empty = λ m p. refl; some = λ m p n. refl; row = λ m p row. refl }
string_shape d (extension name metadata k) e = extended d name metadata k 0 two_of (string_faults (binary_size k)) (string_row (binary_size k)) (string_shape d k e)
string_shape d k e = absurd (omega arith)

strings_read : (m : RecordBatch) (p : Place) (size rows : ℕ) (values : List ℕ) (v : Option (List Bool)) → Headed m p rows v → BufferHeld m (p.buffer + 1) values → from_on (string_row size m p) 0 rows ≡ masked v (from_on (λ row. cells.bytes (fixed_row size values row)) 0 rows)
strings_read m p size rows values v h b =
    cells_told m p rows v (string_row size m p) (string_cell size m p) (λ row. cells.bytes (fixed_row size values row)) h (λ row. refl)
    (λ row lt e. ap (λ bytes. cells.bytes (take size (drop (size * row) bytes))) (held_bytes m (p.buffer + 1) values b))

-- whole rows take all the bytes
pub whole_rows : (size n : ℕ) → 0 < size → n % size ≡ 0 → size * (n / size) ≡ n
whole_rows size n h e = omega arith

pub fixed_mean : (order : Order) (d : Dictionaries) (f : Leaf ℕ) → leaf_fault_in (fixed f) ≡ None → Means order d (fixed_rows f) (column_in order (leaf (fixed f)))
fixed_mean order d f e =
    let rows = fixed_rows f in
    let size = binary_size f.kind in
    let sound = fixed_sound f e in
    let all : size * rows ≡ length f.values = whole_rows size (length f.values) sound.sized sound.whole in
    means_by d f.kind 0 two_of (string_faults size) (string_row size) order rows (null_rows f.validity) (validity_bytes f.validity ∷ f.values ∷ []) [] (fixed_cells f) (string_shape d f.kind sound.sized) refl (λ m p s. refl)
    (λ m p o s few. fixed_right m p size rows f.validity f.values (headed m p f.kind rows f.validity (f.values ∷ []) [] (fixed_cells f) sound.rows s) (second m p f.kind rows (null_rows f.validity) (validity_bytes f.validity) f.values [] [] (fixed_cells f) s) (omega arith))
    (λ m p o s. strings_read m p size rows f.values f.validity (headed m p f.kind rows f.validity (f.values ∷ []) [] (fixed_cells f) sound.rows s) (second m p f.kind rows (null_rows f.validity) (validity_bytes f.validity) f.values [] [] (fixed_cells f) s))
