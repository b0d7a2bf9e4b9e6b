-- What a view is seen as: ranges of the input under a layout, with its children, and the cells of its rows. (Arrow Columnar Format, "Physical Memory Layout".)
use Rattle.std.specs.Prelude.{◌≡◌, ◌<◌, ◌/◌, ℕ, zero, suc, ◌+◌, ◌-◌, ◌*◌, List, [], ◌∷◌, take, drop, Bool, true, false, Option, Some, None, ℤ, pos, nat_le, nat_lt, slice_index_or, if◌then◌else◌}
use Rattle.std.specs.Int.{Width, w8, w32, w64, byte_len, cast_signed}
use Rattle.arrow_spec.specs.declared.types.IntegerType.{IntegerType}
use Rattle.arrow_spec.specs.declared.types.UnionMode.{UnionMode}
use Rattle.arrow_spec.specs.declared.types.UnionMode.TheVariants.{Dense, Sparse}
use Rattle.arrow_spec.specs.Flat.{Order, little, big, num}
use Rattle.arrow_spec.specs.Kinds.{Offsets, small, large}
use Rattle.arrow_spec.specs.Cells as cells
use Rattle.arrow_spec.specs.Cells.{Cell, Cells, cells_of}
use Rattle.arrow_spec.specs.Counts.{magnitude}
use Rattle.arrow_spec.specs.Arrays.{bit, or_0, u32_of, slice, from_on, id_place, offset_width, integer_width, is_unsigned}
use Rattle.view_types.specs.declared.layout.Range.{Range}
use Rattle.view_types.specs.declared.layout.Layout.{Layout}
use Rattle.view_types.specs.declared.layout.Layout.TheVariants.{Null, Boolean, Number, DayTime, MonthDayNano, Bytes, Views as Viewed, FixedBytes, Lists, FixedLists, Struct, Union, Dictionary}

-- the ranges of an array in the input, without its children
pub record Top : Type 0 where
  pub input : List ℕ
  pub is_big : Bool
  pub layout : Layout
  pub rows : ℕ
  pub ids : List ℤ
  pub validity : Option Range
  pub first : Range
  pub second : Range
  pub buffers : List Range

-- an array, and its children
mutual
  pub data View : Type 0 where
    array : Top → Views → View

  pub data Views : Type 0 where
    none : Views
    also : View → Views → Views

abbrev pub views : List View → Views
views [] = none
views (v ∷ vs) = also v (views vs)

abbrev pub top_of : View → Top
top_of (array t cs) = t

abbrev pub children_of : View → Views
children_of (array t cs) = cs

abbrev pub rows_of : View → ℕ
rows_of (array t cs) = t.rows

-- the i-th child, and how many there are
abbrev pub child_at : Views → ℕ → Option View
child_at none i = None
child_at (also v vs) zero = Some v
child_at (also v vs) (suc i) = child_at vs i

abbrev pub count_of : Views → ℕ
count_of none = 0
count_of (also v vs) = suc (count_of vs)

-- the rows of the i-th child, 0 where there is none
abbrev pub rows_at : Views → ℕ → ℕ
rows_at none i = 0
rows_at (also v vs) zero = rows_of v
rows_at (also v vs) (suc i) = rows_at vs i

-- ── bytes and numbers ──

-- the bytes of a range
abbrev pub part_in : List ℕ → Range → List ℕ
part_in input r = take r.length (drop r.at input)

abbrev pub order_of : Bool → Order
order_of false = little
order_of true = big

-- the number at a place, 0 past the end
abbrev pub unsigned_at : List ℕ → ℕ → Width → Order → ℕ
unsigned_at bytes at w order = or_0 (num bytes at w order)

abbrev pub signed_at : List ℕ → ℕ → Width → Order → ℤ
signed_at bytes at w order = cast_signed w (unsigned_at bytes at w order)

-- number j of an integer type
abbrev pub integer_of : List ℕ → Order → IntegerType → ℕ → ℤ
integer_of bytes order t j = if is_unsigned t then pos (unsigned_at bytes (byte_len (integer_width t) * j) (integer_width t) order)
    else signed_at bytes (byte_len (integer_width t) * j) (integer_width t) order

-- the width of offsets
abbrev pub offsets_by : Bool → Offsets
offsets_by false = small
offsets_by true = large

abbrev pub offset_bytes : Bool → ℕ
offset_bytes is_large = byte_len (offset_width (offsets_by is_large))

-- offset j, and the bytes between two of them
abbrev pub offset_in : Top → Bool → ℕ → ℕ
offset_in t is_large j = magnitude (signed_at (part_in t.input t.first) (offset_bytes is_large * j) (offset_width (offsets_by is_large)) (order_of t.is_big))

abbrev pub row_of : Top → Bool → ℕ → List ℕ
row_of t is_large row = slice (part_in t.input t.second) (offset_in t is_large row) (offset_in t is_large (suc row))

-- the number of a row
abbrev pub number_in : Top → IntegerType → ℕ → ℤ
number_in t i row = integer_of (part_in t.input t.first) (order_of t.is_big) i row

-- a number inside a row's bytes
abbrev pub part_of_row : Top → ℕ → ℕ → Width → ℕ → ℤ
part_of_row t stride at w row = signed_at (part_in t.input t.first) (stride * row + at) w (order_of t.is_big)

-- a row's view, and the bytes to which it leads
abbrev pub view_in : Top → ℕ → List ℕ
view_in t row = take 16 (drop (16 * row) (part_in t.input t.first))

abbrev pub range_at : List Range → ℕ → Range
range_at rs i = slice_index_or rs i (record { at = 0; length = 0 })

abbrev pub viewed : Top → List ℕ → List ℕ
viewed t view = if nat_le (u32_of view 0) 12 then take (u32_of view 0) (drop 4 view)
    else take (u32_of view 0) (drop (u32_of view 12) (part_in t.input (range_at t.buffers (u32_of view 8))))

-- the type of a union's row, and its row of the child
abbrev pub type_in : Top → ℕ → ℤ
type_in t row = signed_at (part_in t.input t.first) row w8 (order_of t.is_big)

abbrev pub child_row : Top → UnionMode → ℕ → ℕ
child_row t Sparse row = row
child_row t Dense row = magnitude (signed_at (part_in t.input t.second) (4 * row) w32 (order_of t.is_big))

-- ── cells ──

-- a row's bit of the validity, where there is one
abbrev pub is_set : Option (List ℕ) → ℕ → Bool
is_set None row = true
is_set (Some bytes) row = bit bytes row

abbrev pub bits_in : List ℕ → Option Range → Option (List ℕ)
bits_in input None = None
bits_in input (Some r) = Some (part_in input r)

-- a row is not null: none of an array of nulls
abbrev pub is_valid_in : Layout → Top → ℕ → Bool
is_valid_in Null t row = false
is_valid_in l t row = is_set (bits_in t.input t.validity) row

abbrev pub is_valid : View → ℕ → Bool
is_valid (array t cs) row = is_valid_in t.layout t row

abbrev pub if_set : Bool → Cell → Cell
if_set valid x = if valid then x else cells.null

abbrev pub bytes_cell : Bool → List ℕ → Cell
bytes_cell true = cells.text
bytes_cell false = cells.bytes

-- what stands in a row of an array without children that is not null
abbrev pub value_in : Layout → Top → ℕ → Cell
value_in Boolean t row = cells.bool (bit (part_in t.input t.first) row)
value_in (Number i) t row = cells.number (number_in t i row)
value_in DayTime t row = cells.interval (part_of_row t 8 0 w32 row) (part_of_row t 8 4 w32 row) (pos 0)
value_in MonthDayNano t row = cells.interval (part_of_row t 16 0 w32 row) (part_of_row t 16 4 w32 row) (part_of_row t 16 8 w64 row)
value_in (Bytes is_large is_text) t row = bytes_cell is_text (row_of t is_large row)
value_in (Viewed is_text) t row = bytes_cell is_text (viewed t (view_in t row))
value_in (FixedBytes n) t row = cells.bytes (take n (drop (n * row) (part_in t.input t.first)))
value_in l t row = cells.null

-- the i-th child's row, a row of all children, and the n-th of all children's rows, by the cells of each child and how many rows each has
abbrev pub child_cell : List (ℕ → Cell) → ℕ → ℕ → Cell
child_cell [] i row = cells.null
child_cell (f ∷ fs) zero row = f row
child_cell (f ∷ fs) (suc i) row = child_cell fs i row

abbrev pub across : List (ℕ → Cell) → ℕ → Cells
across [] row = cells.none
across (f ∷ fs) row = cells.also (f row) (across fs row)

abbrev pub cell_among : List (ℕ → Cell) → List ℕ → ℕ → Cell
cell_among [] ns n = cells.null
cell_among (f ∷ fs) [] n = cells.null
cell_among (f ∷ fs) (m ∷ ns) n = if nat_lt n m then f n else cell_among fs ns (n - m)

-- so many of the first child's rows, from one on
abbrev pub items_of : List (ℕ → Cell) → ℕ → ℕ → Cell
items_of fs from count = cells.«list» (cells_of (from_on (λ j. child_cell fs 0 j) from count))

-- what a row that is not null holds: of a list the child's rows, of a struct the children's, of a union one child's, of a dictionary that of a key among all children's rows
abbrev pub held_in : Layout → Top → List (ℕ → Cell) → List ℕ → ℕ → Cell
held_in (Lists is_large) t fs ns row = items_of fs (offset_in t is_large row) (offset_in t is_large (suc row) - offset_in t is_large row)
held_in (FixedLists n) t fs ns row = items_of fs (n * row) n
held_in Struct t fs ns row = cells.struct (across fs row)
held_in (Union mode) t fs ns row = cells.tagged (type_in t row) (child_cell fs (or_0 (id_place t.ids (type_in t row))) (child_row t mode row))
held_in (Dictionary i) t fs ns row = cell_among fs ns (magnitude (number_in t i row))
held_in l t fs ns row = value_in l t row

abbrev pub rows_each : Views → List ℕ
rows_each none = []
rows_each (also v vs) = rows_of v ∷ rows_each vs

-- the cell of a row
abbrev mutual
  pub cell_of : View → ℕ → Cell
  cell_of (array t cs) row = if_set (is_valid_in t.layout t row) (held_in t.layout t (cells_each cs) (rows_each cs) row)

  pub cells_each : Views → List (ℕ → Cell)
  cells_each none = []
  cells_each (also v vs) = cell_of v ∷ cells_each vs

-- the cells of all rows
abbrev pub cells_in : View → List Cell
cells_in v = from_on (cell_of v) 0 (rows_of v)

-- how many arrays there are in it
abbrev mutual
  pub view_size : View → ℕ
  view_size (array t cs) = suc (views_size cs)

  pub views_size : Views → ℕ
  views_size none = 0
  views_size (also v vs) = view_size v + views_size vs

-- ── what a call asks of a view ──

abbrev pub layout_of : View → Layout
layout_of (array t cs) = t.layout

-- a row that is not null
pub record IsRow (v : View) (row : ℕ) : Type 0 where
  pub below : row < rows_of v
  pub valid : is_valid v row ≡ true

abbrev pub is_keys : Layout → Bool
is_keys (Dictionary i) = true
is_keys l = false

abbrev pub is_number : Layout → Bool
is_number (Number i) = true
is_number l = false

abbrev pub is_interval : Layout → Bool
is_interval DayTime = true
is_interval MonthDayNano = true
is_interval l = false

abbrev pub has_bytes : Layout → Bool
has_bytes (Bytes is_large is_text) = true
has_bytes (Viewed is_text) = true
has_bytes (FixedBytes n) = true
has_bytes l = false

abbrev pub has_text : Layout → Bool
has_text (Bytes is_large is_text) = is_text
has_text (Viewed is_text) = is_text
has_text l = false

abbrev pub has_place : Layout → Bool
has_place Boolean = true
has_place (Number i) = true
has_place DayTime = true
has_place MonthDayNano = true
has_place (Bytes is_large is_text) = true
has_place (Viewed is_text) = true
has_place (FixedBytes n) = true
has_place l = false

-- where the bytes behind a row's view stand
abbrev pub viewed_place : Top → ℕ → ℕ
viewed_place t row = if nat_le (u32_of (view_in t row) 0) 12 then t.first.at + 16 * row + 4
    else (range_at t.buffers (u32_of (view_in t row) 8)).at + u32_of (view_in t row) 12

-- where the bytes of a row's value stand in the input
abbrev pub place_in : Layout → Top → ℕ → ℕ
place_in Boolean t row = t.first.at + row / 8
place_in (Number i) t row = t.first.at + byte_len (integer_width i) * row
place_in DayTime t row = t.first.at + 8 * row
place_in MonthDayNano t row = t.first.at + 16 * row
place_in (Bytes is_large is_text) t row = t.second.at + offset_in t is_large row
place_in (Viewed is_text) t row = viewed_place t row
place_in (FixedBytes n) t row = t.first.at + n * row
place_in l t row = 0

abbrev pub place_of : View → ℕ → ℕ
place_of (array t cs) row = place_in t.layout t row

abbrev pub input_of : View → List ℕ
input_of (array t cs) = t.input

-- the number whose bytes stand at a place of the input, as a layout reads it
abbrev pub number_there : Layout → Top → ℕ → ℤ
number_there (Number i) t place = if is_unsigned i then pos (unsigned_at t.input place (integer_width i) (order_of t.is_big)) else signed_at t.input place (integer_width i) (order_of t.is_big)
number_there l t place = pos 0

-- an interval: months, days and nanoseconds, or days, milliseconds and 0
pub record Interval : Type 0 where
  pub first : ℤ
  pub second : ℤ
  pub nanoseconds : ℤ

-- and the interval whose bytes stand there
abbrev pub interval_there : Layout → Top → ℕ → Interval
interval_there DayTime t place = record { first = signed_at t.input place w32 (order_of t.is_big); second = signed_at t.input (place + 4) w32 (order_of t.is_big); nanoseconds = pos 0 }
interval_there MonthDayNano t place = record {
  first = signed_at t.input place w32 (order_of t.is_big);
  second = signed_at t.input (place + 4) w32 (order_of t.is_big);
  nanoseconds = signed_at t.input (place + 8) w64 (order_of t.is_big);
}
interval_there l t place = record { first = pos 0; second = pos 0; nanoseconds = pos 0 }
