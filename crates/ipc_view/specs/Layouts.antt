-- The layout under which the arrays of a kind are seen, what is wrong with them by it, and when ranges of the input show them. (Arrow Columnar Format, "Buffer Listing for Each Layout".)
use Rattle.std.specs.Prelude.{◌≡◌, ℕ, suc, ◌+◌, ◌*◌, ◌≤◌, ◌<◌, List, [], ◌++◌, Bool, true, false, Option, Some, None, IfSome, map, not, ◌&&◌}
use Rattle.std.specs.Int.{byte_len}
use Rattle.arrow_spec.specs.declared.error.IpcError.{IpcError}
use Rattle.arrow_spec.specs.declared.error.IpcError.TheVariants.{OutOfSpec}
use Rattle.arrow_spec.specs.declared.error.OutOfSpecKind.TheVariants.{InvalidOffsets, InvalidUtf8, InvalidView}
use Rattle.arrow_spec.specs.declared.types.IntegerType.TheVariants.{Int32, Int64, Int128}
use Rattle.arrow_spec.specs.declared.types.IntervalUnit.TheVariants.{YearMonth, DayTime, MonthDayNano}
use Rattle.arrow_spec.specs.Kinds as kind
use Rattle.arrow_spec.specs.Kinds.{Kind, Offsets, small, large}
use Rattle.arrow_spec.specs.Counts.{RecordBatch, Place, count_at, magnitude}
use Rattle.arrow_spec.specs.Arrays.{buf, from_on, integer_width, range_of, valid}
use Rattle.arrow_spec.specs.Faults.{bitmap_faults, bytes_faults, cause, fixed_faults, if_sound, numbers_faults, range_faults, some_row, utf8_faults, validity_faults, view_text_faults, views_faults}
use Rattle.view_types.specs.declared.layout.Layout.{Layout}
use Rattle.view_types.specs.declared.layout.Layout.TheVariants as layout
use Rattle.arrow_buffers.specs.Views.{is_good_view, is_no_text_view}
use Rattle.view_types.specs.Sound.{AreRanges, IsSet, IsSound, Values}
use Rattle.view_types.specs.Ranges.{Lies}
use Rattle.view_types.specs.Views.{Top, bits_in, is_set, none, offset_bytes, offsets_by, order_of, part_in, view_in}
use Rattle.ipc_view.specs.Tests.{has_bad_offsets, is_no_text}
use Rattle.ipc_view.specs.Built.{HasBitsIn}

-- offsets of 64 bits
abbrev pub is_large : Offsets → Bool
is_large small = false
is_large large = true

-- extensions are looked through; floats and decimals of 256 bits are never seen
abbrev pub kind_layout : Kind → Layout
kind_layout kind.boolean = layout.Boolean
kind_layout (kind.integer t) = layout.Number t
kind_layout kind.date32 = layout.Number Int32
kind_layout kind.date64 = layout.Number Int64
kind_layout (kind.time32 u) = layout.Number Int32
kind_layout (kind.time64 u) = layout.Number Int64
kind_layout (kind.timestamp u tz) = layout.Number Int64
kind_layout (kind.duration u) = layout.Number Int64
kind_layout (kind.interval YearMonth) = layout.Number Int32
kind_layout (kind.interval DayTime) = layout.DayTime
kind_layout (kind.interval MonthDayNano) = layout.MonthDayNano
kind_layout (kind.decimal precision scale) = layout.Number Int128
kind_layout (kind.binary o) = layout.Bytes (is_large o) false
kind_layout (kind.utf8 o) = layout.Bytes (is_large o) true
kind_layout kind.binary_view = layout.Views false
kind_layout kind.utf8_view = layout.Views true
kind_layout (kind.fixed_size_binary n) = layout.FixedBytes n
kind_layout (kind.«list» o fs) = layout.Lists (is_large o)
kind_layout (kind.fixed_size_list n fs) = layout.FixedLists n
kind_layout (kind.struct fs) = layout.Struct
kind_layout (kind.map sorted fs) = layout.Lists false
kind_layout (kind.union mode stated ids fs) = layout.Union mode
kind_layout (kind.dictionary t ordered id k) = layout.Dictionary t
kind_layout (kind.extension name metadata k) = kind_layout k
kind_layout k = layout.Null

-- the same, which is that of nulls where a kind has children
abbrev pub flat_layout : Kind → Layout
flat_layout (kind.«list» o fs) = layout.Null
flat_layout (kind.fixed_size_list n fs) = layout.Null
flat_layout (kind.struct fs) = layout.Null
flat_layout (kind.map sorted fs) = layout.Null
flat_layout (kind.union mode stated ids fs) = layout.Null
flat_layout (kind.dictionary t ordered id k) = layout.Null
flat_layout (kind.extension name metadata k) = flat_layout k
flat_layout k = kind_layout k

-- arrays without children, extensions looked through, whose values are read
abbrev pub is_leaf : Kind → Bool
is_leaf (kind.«list» o fs) = false
is_leaf (kind.fixed_size_list n fs) = false
is_leaf (kind.struct fs) = false
is_leaf (kind.map sorted fs) = false
is_leaf (kind.union mode stated ids fs) = false
is_leaf (kind.dictionary t ordered id k) = false
is_leaf (kind.extension name metadata k) = is_leaf k
is_leaf (kind.float f) = false
is_leaf (kind.decimal256 precision scale) = false
is_leaf k = true

-- their layouts
abbrev pub is_leaf_layout : Layout → Bool
is_leaf_layout (layout.Lists is_large) = false
is_leaf_layout (layout.FixedLists n) = false
is_leaf_layout layout.Struct = false
is_leaf_layout (layout.Union mode) = false
is_leaf_layout (layout.Dictionary i) = false
is_leaf_layout l = true

-- how many bytes each row has, where that is one number
abbrev pub fixed_width : Layout → Option ℕ
fixed_width (layout.Number i) = Some (byte_len (integer_width i))
fixed_width layout.DayTime = Some 8
fixed_width layout.MonthDayNano = Some 16
fixed_width (layout.FixedBytes n) = Some n
fixed_width l = None

-- ── what is wrong ──

-- with the buffers of byte strings and texts themselves
abbrev pub string_buffers_faults : RecordBatch → Bool → Place → ℕ → List IpcError
string_buffers_faults m is_large p rows = validity_faults m p rows ++ numbers_faults m (p.buffer + 1) (offset_bytes is_large) (suc rows) ++ range_faults m (p.buffer + 2)

-- with what stands in them, by the ranges that show them
abbrev pub text_causes : Top → Bool → Bool → List IpcError
text_causes t is_large false = []
text_causes t is_large true = cause (some_row (is_no_text (part_in t.input t.first) (part_in t.input t.second) (bits_in t.input t.validity) is_large (order_of t.is_big)) t.rows) (OutOfSpec InvalidUtf8)

abbrev pub string_causes : Top → Bool → Bool → List IpcError
string_causes t is_large is_text =
    if_sound (cause (has_bad_offsets (part_in t.input t.first) is_large (order_of t.is_big) t.rows t.second.length) (OutOfSpec InvalidOffsets)) (text_causes t is_large is_text)

-- with byte strings, or texts, between offsets
abbrev pub strings_faults : RecordBatch → Bool → Bool → Place → ℕ → List IpcError
strings_faults m is_large false p rows = bytes_faults m (offsets_by is_large) p rows
strings_faults m is_large true p rows = if_sound (bytes_faults m (offsets_by is_large) p rows) (utf8_faults m (offsets_by is_large) p rows)

-- with those behind views
abbrev pub viewed_faults : RecordBatch → Bool → Place → ℕ → List IpcError
viewed_faults m false p rows = views_faults m p rows
viewed_faults m true p rows = view_text_faults m p rows

-- with an array without children that has rows, its node aside
abbrev pub contents_faults : RecordBatch → Layout → Place → ℕ → List IpcError
contents_faults m layout.Boolean p rows = validity_faults m p rows ++ bitmap_faults m (p.buffer + 1) rows
contents_faults m (layout.Number t) p rows = fixed_faults m p (byte_len (integer_width t)) rows
contents_faults m layout.DayTime p rows = fixed_faults m p 8 rows
contents_faults m layout.MonthDayNano p rows = fixed_faults m p 16 rows
contents_faults m (layout.Bytes is_large is_text) p rows = strings_faults m is_large is_text p rows
contents_faults m (layout.Views is_text) p rows = viewed_faults m is_text p rows
contents_faults m (layout.FixedBytes n) p rows = fixed_faults m p n rows
contents_faults m l p rows = []

-- ── views ──

-- the buffers that a view's count says
abbrev pub buffers_told : RecordBatch → Place → List (List ℕ)
buffers_told m p = from_on (buf m) (p.buffer + 2) (count_at m p.view)

-- the bytes of the buffers to which views lead
abbrev pub buffers_in : Top → List (List ℕ)
buffers_in t = map (part_in t.input) t.buffers

-- the view of a row that is not null is not good, or is good and no text
abbrev pub is_bad_view : Top → ℕ → Bool
is_bad_view t row = is_set (bits_in t.input t.validity) row && not (is_good_view (buffers_in t) (view_in t row))

abbrev pub is_bad_text_view : Top → ℕ → Bool
is_bad_text_view t row = is_set (bits_in t.input t.validity) row && is_no_text_view (buffers_in t) (view_in t row)

-- what is wrong with views, by the ranges that show them
abbrev pub view_causes : Top → Bool → List IpcError
view_causes t false = cause (some_row (is_bad_view t) t.rows) (OutOfSpec InvalidView)
view_causes t true = cause (some_row (is_bad_view t) t.rows) (OutOfSpec InvalidView) ++ cause (some_row (is_bad_text_view t) t.rows) (OutOfSpec InvalidUtf8)

-- none is bad, and none is good and no text where they are texts
pub record AreGood (t : Top) (is_text : Bool) : Type 0 where
  pub views : some_row (is_bad_view t) t.rows ≡ false
  pub texts : is_text ≡ true → some_row (is_bad_text_view t) t.rows ≡ false

-- ── what is seen ──

-- nulls alone, whose validity is not looked at
abbrev pub is_nothing : Layout → Bool
is_nothing layout.Null = true
is_nothing l = false

-- no ranges
abbrev pub empty_top : List ℕ → Bool → Layout → ℕ → Top
empty_top input is_big l rows = record {
  input = input;
  is_big = is_big;
  layout = l;
  rows = rows;
  ids = [];
  validity = None;
  first = record { at = 0; length = 0 };
  second = record { at = 0; length = 0 };
  buffers = [];
}

-- the ranges of views and of the buffers to which they lead show their buffers, and views of rows that are not null are good
pub record ShowsViews (m : RecordBatch) (p : Place) (rows : ℕ) (t : Top) : Type 0 where
  pub views : part_in t.input t.first ≡ buf m (p.buffer + 1)
  pub buffers : buffers_in t ≡ buffers_told m p
  pub lie : AreRanges t.input t.buffers
  pub good : (row : ℕ) → row < rows → IsSet t row → is_good_view (buffers_in t) (view_in t row) ≡ true

-- the other ranges are the buffers of the array
abbrev pub ShowsBuffers : Layout → RecordBatch → Place → ℕ → Top → Type 0
ShowsBuffers layout.Null m p rows t = Unit {0}
ShowsBuffers (layout.Bytes is_large is_text) m p rows t = (part_in t.input t.first ≡ buf m (p.buffer + 1)) × (part_in t.input t.second ≡ buf m (p.buffer + 2))
ShowsBuffers (layout.Views is_text) m p rows t = ShowsViews m p rows t
ShowsBuffers l m p rows t = part_in t.input t.first ≡ buf m (p.buffer + 1)

-- the parts of a view show an array without children at a place, read for so many rows
pub record IsLeafOf (m : RecordBatch) (l : Layout) (p : Place) (rows : ℕ) (t : Top) : Type 0 where
  pub all_rows : t.rows ≡ rows
  pub layout_is : t.layout ≡ l
  pub order : m.order ≡ order_of t.is_big
  pub bits : is_nothing l ≡ false → (row : ℕ) → row < rows → is_set (bits_in t.input t.validity) row ≡ valid m p row
  pub buffers : ShowsBuffers l m p rows t
  pub sound : IsSound t none

-- the ranges of byte strings or texts show their buffers, which have room for the offsets
pub record ShowsStrings (m : RecordBatch) (l : Layout) (is_large : Bool) (p : Place) (rows : ℕ) (t : Top) : Type 0 where
  pub all_rows : t.rows ≡ rows
  pub layout_is : t.layout ≡ l
  pub order : m.order ≡ order_of t.is_big
  pub bits : (row : ℕ) → row < rows → is_set (bits_in t.input t.validity) row ≡ valid m p row
  pub offsets : part_in t.input t.first ≡ buf m (p.buffer + 1)
  pub values : part_in t.input t.second ≡ buf m (p.buffer + 2)
  pub stated : t.second.length ≡ magnitude (range_of m (p.buffer + 2)).length
  pub has_bits : IfSome t.validity (HasBitsIn t.input t.rows)
  pub offsets_lie : Lies t.input t.first
  pub room : offset_bytes is_large * (t.rows + 1) ≤ t.first.length
  pub values_lie : Lies t.input t.second

-- the ranges of views and of their buffers show them, and have room for the views
pub record ShowsData (m : RecordBatch) (l : Layout) (p : Place) (rows : ℕ) (t : Top) : Type 0 where
  pub all_rows : t.rows ≡ rows
  pub layout_is : t.layout ≡ l
  pub order : m.order ≡ order_of t.is_big
  pub bits : (row : ℕ) → row < rows → is_set (bits_in t.input t.validity) row ≡ valid m p row
  pub has_bits : IfSome t.validity (HasBitsIn t.input t.rows)
  pub views : part_in t.input t.first ≡ buf m (p.buffer + 1)
  pub stand : Values t 16
  pub buffers : buffers_in t ≡ buffers_told m p
  pub buffers_lie : AreRanges t.input t.buffers
