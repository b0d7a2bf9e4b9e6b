-- The parts of the array at a place of a record batch: node, buffers, bits, numbers, offsets, views; and the dictionaries that were read. (Arrow Columnar Format, "Physical Memory Layout".)
use Rattle.std.specs.Prelude.{ℕ, zero, suc, ◌+◌, ◌-◌, ◌*◌, ◌/◌, ◌%◌, List, [], ◌∷◌, ◌++◌, take, drop, Bool, true, false, Option, Some, None, nat_le, nat_lt, nat_eq, if◌then◌else◌, ℤ, pos, slice_get, slice_index}
use Rattle.std.specs.Int.{Width, w8, w16, w32, w64, w128, bit_at, cast_signed, byte_len}
use Rattle.arrow_spec.specs.declared.types.IntegerType.{IntegerType}
use Rattle.arrow_spec.specs.declared.types.IntegerType.TheVariants.{Int8, Int16, Int32, Int64, Int128, UInt8, UInt16, UInt32, UInt64}
use Rattle.arrow_spec.specs.Flat.{little, num}
use Rattle.arrow_spec.specs.declared.types.UnionMode.{UnionMode}
use Rattle.arrow_spec.specs.declared.types.UnionMode.TheVariants.{Dense, Sparse}
use Rattle.arrow_spec.specs.Kinds.{Offsets, small, large, same}
use Rattle.arrow_spec.specs.Cells as cells
use Rattle.arrow_spec.specs.Cells.{Cell}
use Rattle.arrow_spec.specs.declared.message.FieldNode.{FieldNode}
use Rattle.arrow_spec.specs.declared.message.IpcBuffer.{IpcBuffer}
use Rattle.arrow_spec.specs.Counts.{RecordBatch, Place, magnitude, has_union_validity, Written}

-- a dictionary message that was read: its id, whether it is a delta, its cells, and what they are written with
pub record HeldDictionary : Type 0 where
  pub id : ℤ
  pub is_delta : Bool
  pub cells : List Cell
  pub written : Written

-- the dictionary messages so far, the latest first: a message was read under those behind it
abbrev pub Dictionaries : Type 0
Dictionaries = List HeldDictionary

-- what the cells of a message stand behind: a delta behind those before it, another dictionary behind none ("Dictionary Messages")
abbrev pub cells_before : Bool → Option (List Cell) → List Cell
cells_before false old = []
cells_before true None = []
cells_before true (Some cells) = cells

-- the cells under an id: a dictionary replaces them, and a delta appends to them, or begins them where there are none
abbrev pub found : Dictionaries → ℤ → Option (List Cell)
found [] id = None
found (x ∷ xs) id = if same x.id id then Some (cells_before x.is_delta (found xs id) ++ x.cells) else found xs id

-- ── parts of an array ──

-- a node, or one of no rows
abbrev pub node_or_none : Option FieldNode → FieldNode
node_or_none None = record { length = pos 0; null_count = pos 0 }
node_or_none (Some x) = x

-- a buffer, or an empty one
abbrev pub range_or_none : Option IpcBuffer → IpcBuffer
range_or_none None = record { offset = pos 0; length = pos 0 }
range_or_none (Some x) = x

-- the i-th node
abbrev pub node_of : RecordBatch → ℕ → FieldNode
node_of m i = node_or_none (slice_get m.nodes i)

-- the i-th buffer's range
abbrev pub range_of : RecordBatch → ℕ → IpcBuffer
range_of m i = range_or_none (slice_get m.buffers i)

-- the i-th buffer's bytes in the body
unfoldable pub buf : RecordBatch → ℕ → List ℕ
buf m i = take (magnitude (range_of m i).length) (drop (magnitude (range_of m i).offset) m.body)

-- bit i of a bitmap: the lowest bit of a byte comes first ("Validity bitmaps")
abbrev pub bit : List ℕ → ℕ → Bool
bit bytes row = nat_eq (bit_at (slice_index bytes (row / 8)) (row % 8)) 1

-- a validity is looked at where nulls are counted ("Validity bitmaps")
abbrev pub has_nulls : RecordBatch → Place → Bool
has_nulls m p = nat_lt 0 (magnitude (node_of m p.node).null_count)

-- the row isn't null in an array with a validity
unfoldable pub valid : RecordBatch → Place → ℕ → Bool
valid m p row = if has_nulls m p then bit (buf m p.buffer) row else true

-- a number, 0 where there is none
abbrev pub or_0 : Option ℕ → ℕ
or_0 None = 0
or_0 (Some n) = n

-- number j, of a width, in the i-th buffer
unfoldable pub unsigned_in : RecordBatch → Width → ℕ → ℕ → ℕ
unsigned_in m w i j = or_0 (num (buf m i) (byte_len w * j) w m.order)

-- the same in two's complement
abbrev pub signed_in : RecordBatch → Width → ℕ → ℕ → ℤ
signed_in m w i j = cast_signed w (unsigned_in m w i j)

-- the width of an offset
abbrev pub offset_width : Offsets → Width
offset_width small = w32
offset_width large = w64

-- offset j of the i-th buffer
abbrev pub offset : RecordBatch → Offsets → ℕ → ℕ → ℕ
offset m o i j = magnitude (signed_in m (offset_width o) i j)

-- bytes between two places
abbrev pub slice : List ℕ → ℕ → ℕ → List ℕ
slice bytes from to = take (to - from) (drop from bytes)

-- the bytes of a row between two offsets
abbrev pub row_bytes : RecordBatch → Offsets → Place → ℕ → List ℕ
row_bytes m o p row = slice (buf m (p.buffer + 2)) (offset m o (p.buffer + 1) row) (offset m o (p.buffer + 1) (suc row))

-- the little-endian number in four bytes at a place of a view
abbrev pub u32_of : List ℕ → ℕ → ℕ
u32_of bytes at = or_0 (num bytes at w32 little)

-- the 16 bytes of a row's view ("Variable-size Binary View Layout")
abbrev pub view_of : RecordBatch → Place → ℕ → List ℕ
view_of m p row = take 16 (drop (16 * row) (buf m (p.buffer + 1)))

-- a view's bytes: in itself up to 12, else in a buffer
abbrev pub view_bytes : RecordBatch → Place → List ℕ → List ℕ
view_bytes m p view = if nat_le (u32_of view 0) 12 then take (u32_of view 0) (drop 4 view)
    else take (u32_of view 0) (drop (u32_of view 12) (buf m (p.buffer + 2 + u32_of view 8)))

-- the width of an integer type
abbrev pub integer_width : IntegerType → Width
integer_width Int8 = w8
integer_width Int16 = w16
integer_width Int32 = w32
integer_width Int64 = w64
integer_width Int128 = w128
integer_width UInt8 = w8
integer_width UInt16 = w16
integer_width UInt32 = w32
integer_width UInt64 = w64

-- no sign
abbrev pub is_unsigned : IntegerType → Bool
is_unsigned UInt8 = true
is_unsigned UInt16 = true
is_unsigned UInt32 = true
is_unsigned UInt64 = true
is_unsigned t = false

-- number j of the i-th buffer
abbrev pub integer_in : RecordBatch → IntegerType → ℕ → ℕ → ℤ
integer_in m t i j = if is_unsigned t then pos (unsigned_in m (integer_width t) i j) else signed_in m (integer_width t) i j

-- f i, f (i + 1), .., n of them
abbrev pub from_on : {A : Type 0} → (ℕ → A) → ℕ → ℕ → List A
from_on f i zero = []
from_on f i (suc n) = f i ∷ from_on f (suc i) n

-- where an id stands among a union's ids
abbrev pub id_place : List ℤ → ℤ → Option ℕ
id_place [] t = None
id_place (x ∷ xs) t = if same x t then Some 0 else next (id_place xs t)
  where
    next : Option ℕ → Option ℕ
    next None = None
    next (Some i) = Some (suc i)

-- the number of a union's types buffer
abbrev pub types_buffer : RecordBatch → Place → ℕ
types_buffer m p = if has_union_validity m.version then suc p.buffer else p.buffer

-- a dense union has its row in its offsets, a sparse one in order ("Union Layout")
abbrev pub child_row : RecordBatch → UnionMode → Place → ℕ → ℕ
child_row m Sparse p row = row
child_row m Dense p row = offset m small (suc (types_buffer m p)) row

-- a cell, null where there is none
abbrev pub cell_or_null : Option Cell → Cell
cell_or_null None = cells.null
cell_or_null (Some x) = x

-- the cell at a key ("Dictionary-encoded Layout")
abbrev pub keyed : Option (List Cell) → ℤ → Cell
keyed None key = cells.null
keyed (Some xs) key = cell_or_null (slice_get xs (magnitude key))

-- null where the row is not valid
abbrev pub if_valid : RecordBatch → Place → ℕ → Cell → Cell
if_valid m p row x = if valid m p row then x else cells.null

-- a number of a width ("Fixed-size Primitive Layout")
abbrev pub number_in : RecordBatch → Place → Width → ℕ → Cell
number_in m p w row = if_valid m p row (cells.number (signed_in m w (p.buffer + 1) row))

-- a number inside a row's bytes
abbrev pub part_of_row : RecordBatch → Place → ℕ → ℕ → Width → ℕ → ℤ
part_of_row m p stride at w row = cast_signed w (or_0 (num (buf m (p.buffer + 1)) (stride * row + at) w m.order))
