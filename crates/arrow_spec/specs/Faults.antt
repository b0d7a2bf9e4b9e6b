-- What must hold of an array, and the refusals where it does not. (Arrow Columnar Format, "Physical Memory Layout", "Buffer Listing for Each Layout".)
use Rattle.std.specs.Prelude.{ℕ, zero, suc, ◌+◌, ◌*◌, List, [], ◌∷◌, ◌++◌, length, take, drop, Bool, true, false, Option, Some, None, nat_le, nat_lt, nat_eq, not, ◌&&◌, ◌||◌, if◌then◌else◌, ℤ, slice_get}
use Rattle.std.specs.Int.{w8, w32, byte_len}
use Rattle.std.specs.Str.{is_utf8, bytes_eq}
use Rattle.arrow_spec.specs.declared.error.IpcError.{IpcError}
use Rattle.arrow_spec.specs.declared.error.IpcError.TheVariants.{OutOfSpec, Unsupported}
use Rattle.arrow_spec.specs.declared.error.Feature.TheVariants as features
use Rattle.arrow_spec.specs.declared.error.OutOfSpecKind.TheVariants as kinds
use Rattle.arrow_spec.specs.declared.types.IntegerType.{IntegerType}
use Rattle.arrow_spec.specs.Flat.{Order, little, big}
use Rattle.arrow_spec.specs.declared.types.IntervalUnit.TheVariants.{YearMonth, DayTime, MonthDayNano}
use Rattle.arrow_spec.specs.declared.types.UnionMode.{UnionMode}
use Rattle.arrow_spec.specs.declared.types.UnionMode.TheVariants.{Dense, Sparse}
use Rattle.arrow_spec.specs.Kinds.{Kind, Fields, none, field, boolean, integer, date32, date64, time32, time64, timestamp, duration, interval, decimal, binary, utf8, binary_view, utf8_view, fixed_size_binary, «list», fixed_size_list, struct, map, union, dictionary, extension, Offsets, small}
use Rattle.arrow_spec.specs.Cells.{Cell}
use Rattle.arrow_spec.specs.declared.message.FieldNode.{FieldNode}
use Rattle.arrow_spec.specs.declared.message.IpcBuffer.{IpcBuffer}
use Rattle.arrow_spec.specs.Counts.{RecordBatch, Place, magnitude, is_negative, count_at, views, union_buffers, after, inside}
use Rattle.arrow_spec.specs.Arrays.{Dictionaries, found, node_of, range_of, buf, has_nulls, valid, signed_in, offset_width, offset, row_bytes, u32_of, view_of, view_bytes, integer_width, integer_in, id_place, types_buffer}

-- a refusal where something holds
abbrev pub cause : Bool → IpcError → List IpcError
cause true e = e ∷ []
cause false e = []

-- what is wrong with the parts, or else with what stands in them
abbrev pub if_sound : List IpcError → List IpcError → List IpcError
if_sound [] causes = causes
if_sound (e ∷ es) causes = e ∷ es

-- a test fails at one of the rows below n
abbrev pub some_row : (ℕ → Bool) → ℕ → Bool
some_row bad zero = false
some_row bad (suc n) = some_row bad n || bad n

-- a test fails at a row that is not null
abbrev pub some_valid_row : RecordBatch → Place → (ℕ → Bool) → ℕ → Bool
some_valid_row m p bad n = some_row (λ row. valid m p row && bad row) n

-- one of some numbers is negative
abbrev pub some_negative : List ℤ → Bool
some_negative [] = false
some_negative (x ∷ xs) = is_negative x || some_negative xs

-- the view counts of an array are there, and none is negative
abbrev pub view_count_faults : RecordBatch → Kind → Place → List IpcError
view_count_faults m k p = cause (nat_lt (length m.variadic) (p.view + views k)) (OutOfSpec kinds.MissingVariadicCount)
    ++ cause (some_negative (take (views k) (drop p.view m.variadic))) (OutOfSpec kinds.UnexpectedNegativeInteger)

-- the nodes, buffers and view counts before a place are all there
abbrev pub counts_faults : RecordBatch → Place → List IpcError
counts_faults m q = cause (nat_lt (length m.nodes) q.node || nat_lt (length m.buffers) q.buffer) (OutOfSpec kinds.ExpectedBuffer)

-- the counts of a column that is read or passed over
unfoldable pub count_faults : RecordBatch → Kind → Place → List IpcError
count_faults m k p = counts_faults m (after m k p) ++ view_count_faults m k p

-- an array's node has at least so many rows; a negative length is looked at before it is compared
abbrev pub node_causes : Option FieldNode → ℕ → List IpcError
node_causes None rows = OutOfSpec kinds.ExpectedBuffer ∷ []
node_causes (Some node) rows =
    if is_negative node.length then OutOfSpec kinds.UnexpectedNegativeInteger ∷ [] else cause (nat_lt (magnitude node.length) rows) (OutOfSpec kinds.NodeLength)

-- an array's node
unfoldable pub node_faults : RecordBatch → Place → ℕ → List IpcError
node_faults m p rows = node_causes (slice_get m.nodes p.node) rows

-- a buffer that is needed lies in the body
abbrev pub range_causes : Option IpcBuffer → ℕ → List IpcError
range_causes None body = OutOfSpec kinds.ExpectedBuffer ∷ []
range_causes (Some range) body = cause (is_negative range.offset || is_negative range.length) (OutOfSpec kinds.UnexpectedNegativeInteger)
    ++ cause (nat_lt body (magnitude range.offset + magnitude range.length)) (OutOfSpec kinds.BufferRange)

-- a range lies in the body
unfoldable pub range_faults : RecordBatch → ℕ → List IpcError
range_faults m i = range_causes (slice_get m.buffers i) (length m.body)

-- a bitmap of so many rows
unfoldable pub bitmap_faults : RecordBatch → ℕ → ℕ → List IpcError
bitmap_faults m i rows = if_sound (range_faults m i) (cause (nat_lt (8 * magnitude (range_of m i).length) rows)
    (OutOfSpec (kinds.InvalidBitmap rows (8 * magnitude (range_of m i).length))))

-- an array's validity, which is looked at where there are rows and nulls
unfoldable pub validity_faults : RecordBatch → Place → ℕ → List IpcError
validity_faults m p zero = []
validity_faults m p (suc n) = if has_nulls m p then bitmap_faults m p.buffer (suc n) else []

-- a buffer of so many numbers
unfoldable pub numbers_faults : RecordBatch → ℕ → ℕ → ℕ → List IpcError
numbers_faults m i width count = if_sound (range_faults m i) (cause (nat_lt (magnitude (range_of m i).length) (width * count))
    (OutOfSpec (kinds.InvalidBuffer count (width * count) (magnitude (range_of m i).length))))

-- a validity, and values of a width
abbrev pub fixed_faults : RecordBatch → Place → ℕ → ℕ → List IpcError
fixed_faults m p width rows = validity_faults m p rows ++ numbers_faults m (p.buffer + 1) width rows

-- a buffer of offsets 0 to rows
abbrev pub offsets_buffer_faults : RecordBatch → Offsets → ℕ → ℕ → List IpcError
offsets_buffer_faults m o i rows = numbers_faults m i (byte_len (offset_width o)) (suc rows)

-- How many rows a child has for its parent's offsets: those of its node.
-- A node that is missing or negative is told by itself, so there it is a number that no offset passes.
abbrev pub child_end : Option FieldNode → ℕ
child_end None = 9223372036854775807
child_end (Some node) = if is_negative node.length then 9223372036854775807 else magnitude node.length

-- the same of the i-th node
abbrev pub end_of : RecordBatch → ℕ → ℕ
end_of m i = child_end (slice_get m.nodes i)

-- offsets 0 to rows: none is negative, none is below the one before, and the last is at most a length
unfoldable pub offsets_faults : RecordBatch → Offsets → ℕ → ℕ → ℕ → List IpcError
offsets_faults m o i rows most = cause (some_row (λ j. is_negative (signed_in m (offset_width o) i j)) (suc rows)
    || some_row (λ j. nat_lt (offset m o i (suc j)) (offset m o i j)) rows || nat_lt most (offset m o i rows)) (OutOfSpec kinds.InvalidOffsets)

-- binaries and texts but for the text ("Variable-size Binary Layout")
unfoldable pub bytes_faults : RecordBatch → Offsets → Place → ℕ → List IpcError
bytes_faults m o p rows = if_sound (validity_faults m p rows ++ offsets_buffer_faults m o (p.buffer + 1) rows ++ range_faults m (p.buffer + 2))
    (offsets_faults m o (p.buffer + 1) rows (magnitude (range_of m (p.buffer + 2)).length))

-- rows that are not null are UTF-8
unfoldable pub utf8_faults : RecordBatch → Offsets → Place → ℕ → List IpcError
utf8_faults m o p rows = cause (some_valid_row m p (λ row. not (is_utf8 (row_bytes m o p row))) rows) (OutOfSpec kinds.InvalidUtf8)

-- zeros
abbrev pub all_zero : List ℕ → Bool
all_zero [] = true
all_zero (b ∷ bs) = nat_eq b 0 && all_zero bs

-- a view's padding is zero, or its range lies in one of so many buffers and its prefix agrees
unfoldable pub is_good_view : RecordBatch → Place → List ℕ → Bool
is_good_view m p view =
    if nat_le (u32_of view 0) 12
    then all_zero (drop (4 + u32_of view 0) view)
    else (nat_lt (u32_of view 8) (count_at m p.view) && nat_le (u32_of view 12 + u32_of view 0) (length (buf m (p.buffer + 2 + u32_of view 8)))
    && bytes_eq (take 4 (drop 4 view)) (take 4 (view_bytes m p view)))

-- each of n buffers from number i on
abbrev pub ranges_faults : RecordBatch → ℕ → ℕ → List IpcError
ranges_faults m i zero = []
ranges_faults m i (suc n) = range_faults m i ++ ranges_faults m (suc i) n

-- big-endian
abbrev pub is_big : Order → Bool
is_big little = false
is_big big = true

-- as many data buffers as the view's count says
abbrev pub data_faults : RecordBatch → Place → ℕ → List IpcError
data_faults m p count = elim (nat_le (p.buffer + 2 + count) (length m.buffers)) [
  | true ↦ ranges_faults m
      (p.buffer + 2) count
  | false ↦ OutOfSpec kinds.ExpectedBuffer ∷ []
]

-- a view array's parts
unfoldable pub view_parts_faults : RecordBatch → Place → ℕ → List IpcError
view_parts_faults m p rows = cause (is_big m.order) (Unsupported features.ViewBigEndian) ++ fixed_faults m p 16 rows
    ++ if_sound (view_count_faults m binary_view p) (data_faults m p (count_at m p.view))

-- a view of a row that is not null is good
abbrev pub bad_view_faults : RecordBatch → Place → ℕ → List IpcError
bad_view_faults m p rows = cause (some_valid_row m p (λ row. not (is_good_view m p (view_of m p row))) rows) (OutOfSpec kinds.InvalidView)

-- a view array
unfoldable pub views_faults : RecordBatch → Place → ℕ → List IpcError
views_faults m p rows = if_sound (view_parts_faults m p rows) (bad_view_faults m p rows)

-- a good view, and no text
abbrev pub is_no_text_view : RecordBatch → Place → List ℕ → Bool
is_no_text_view m p view = is_good_view m p view && not (is_utf8 (view_bytes m p view))

-- a view array of texts
unfoldable pub view_text_faults : RecordBatch → Place → ℕ → List IpcError
view_text_faults m p rows = if_sound (view_parts_faults m p rows) (bad_view_faults m p rows
    ++ cause (some_valid_row m p (λ row. is_no_text_view m p (view_of m p row)) rows) (OutOfSpec kinds.InvalidUtf8))

-- a key of a row that isn't null is below the dictionary's length
unfoldable pub key_faults : RecordBatch → Option (List Cell) → IntegerType → ℤ → Place → ℕ → List IpcError
key_faults m None t id p rows = cause (some_valid_row m p (λ row. true) rows) (OutOfSpec (kinds.InvalidId id))
key_faults m (Some xs) t id p rows = cause (some_valid_row m p (λ row. is_negative (integer_in m t (p.buffer + 1) row)
    || nat_le (length xs) (magnitude (integer_in m t (p.buffer + 1) row))) rows) (OutOfSpec kinds.InvalidKey)

-- a type that is none of the ids
abbrev pub is_no_id : Option ℕ → Bool
is_no_id None = true
is_no_id (Some i) = false

-- the place of the i-th of some fields
abbrev pub place_in : RecordBatch → Fields → ℕ → Place → Place
place_in m none i p = p
place_in m (field name nullable metadata k others) zero p = p
place_in m (field name nullable metadata k others) (suc i) p = place_in m others i (after m k p)

-- a row's offset isn't one of the rows of its child
abbrev pub is_bad_row : RecordBatch → Fields → Place → Option ℕ → ℤ → Bool
is_bad_row m fs p None at = false
is_bad_row m fs p (Some i) at = is_negative at || nat_le (end_of m (place_in m fs i p).node) (magnitude at)

-- where a union is Dense: a buffer of offsets, each of them a row of its child
abbrev pub dense_buffer_faults : RecordBatch → UnionMode → Place → ℕ → List IpcError
dense_buffer_faults m Sparse p rows = []
dense_buffer_faults m Dense p rows = numbers_faults m (suc (types_buffer m p)) 4 rows

-- each offset of a dense union is a row of its child
abbrev pub dense_faults : RecordBatch → UnionMode → List ℤ → Fields → Place → ℕ → List IpcError
dense_faults m Sparse ids fs p rows = []
dense_faults m Dense ids fs p rows = cause (some_row (λ row. is_bad_row m fs (inside (union_buffers m.version Dense) p)
    (id_place ids (signed_in m w8 (types_buffer m p) row)) (signed_in m w32 (suc (types_buffer m p)) row)) rows) (OutOfSpec kinds.InvalidOffsets)

-- a union's types are ids, and where it is Dense each row's offset is a row of its child
unfoldable pub union_faults : RecordBatch → UnionMode → List ℤ → Fields → Place → ℕ → List IpcError
union_faults m mode ids fs p rows = cause (nat_lt p.buffer (types_buffer m p) && has_nulls m p) (Unsupported features.UnionNulls)
    ++ if_sound (numbers_faults m (types_buffer m p) 1 rows ++ dense_buffer_faults m mode p rows)
    (cause (some_row (λ row. is_no_id (id_place ids (signed_in m w8 (types_buffer m p) row))) rows) (OutOfSpec kinds.InvalidUnion)
    ++ dense_faults m mode ids fs p rows)

-- those of an array without children
abbrev pub flat_faults : RecordBatch → Dictionaries → Kind → Place → ℕ → List IpcError
flat_faults m d k p zero = []
flat_faults m d boolean p (suc n) = validity_faults m p (suc n) ++ bitmap_faults m (p.buffer + 1) (suc n)
flat_faults m d (integer t) p (suc n) = fixed_faults m p (byte_len (integer_width t)) (suc n)
flat_faults m d date32 p (suc n) = fixed_faults m p 4 (suc n)
flat_faults m d date64 p (suc n) = fixed_faults m p 8 (suc n)
flat_faults m d (time32 u) p (suc n) = fixed_faults m p 4 (suc n)
flat_faults m d (time64 u) p (suc n) = fixed_faults m p 8 (suc n)
flat_faults m d (timestamp u tz) p (suc n) = fixed_faults m p 8 (suc n)
flat_faults m d (duration u) p (suc n) = fixed_faults m p 8 (suc n)
flat_faults m d (interval YearMonth) p (suc n) = fixed_faults m p 4 (suc n)
flat_faults m d (interval DayTime) p (suc n) = fixed_faults m p 8 (suc n)
flat_faults m d (interval MonthDayNano) p (suc n) = fixed_faults m p 16 (suc n)
flat_faults m d (decimal precision scale) p (suc n) = fixed_faults m p 16 (suc n)
flat_faults m d (binary o) p (suc n) = bytes_faults m o p (suc n)
flat_faults m d (utf8 o) p (suc n) = if_sound (bytes_faults m o p (suc n)) (utf8_faults m o p (suc n))
flat_faults m d binary_view p (suc n) = views_faults m p (suc n)
flat_faults m d utf8_view p (suc n) = view_text_faults m p (suc n)
flat_faults m d (fixed_size_binary size) p (suc n) = fixed_faults m p size (suc n)
flat_faults m d (dictionary t ordered id k) p (suc n) =
    if_sound (fixed_faults m p (byte_len (integer_width t)) (suc n)) (key_faults m (found d id) t id p (suc n))
flat_faults m d k p (suc n) = []

-- Every refusal that may be answered where an array at a place is read for so many rows.
-- Where that is 0, no buffer is looked at and each child is read for 0 rows.
abbrev mutual
  pub array_faults : RecordBatch → Dictionaries → Kind → Place → ℕ → List IpcError
  array_faults m d («list» o fs) p zero = node_faults m p 0 ++ child_faults m d fs (inside 2 p) (λ q. 0)
  array_faults m d («list» o fs) p (suc n) = node_faults m p (suc n) ++ validity_faults m p (suc n)
      ++ if_sound (offsets_buffer_faults m o (p.buffer + 1) (suc n)) (offsets_faults m o (p.buffer + 1) (suc n) (end_of m (suc p.node))
      ++ child_faults m d fs (inside 2 p) (λ q. offset m o (p.buffer + 1) (suc n)))
  array_faults m d (map sorted fs) p zero = node_faults m p 0 ++ child_faults m d fs (inside 2 p) (λ q. 0)
  array_faults m d (map sorted fs) p (suc n) = node_faults m p (suc n) ++ validity_faults m p (suc n)
      ++ if_sound (offsets_buffer_faults m small (p.buffer + 1) (suc n))
      (offsets_faults m small (p.buffer + 1) (suc n) (end_of m (suc p.node))
      ++ child_faults m d fs (inside 2 p) (λ q. offset m small (p.buffer + 1) (suc n)))
  array_faults m d (fixed_size_list size fs) p rows = node_faults m p rows ++ validity_faults m p rows ++ child_faults m d fs (inside 1 p) (λ q. size * rows)
  array_faults m d (struct fs) p rows = node_faults m p rows ++ validity_faults m p rows ++ child_faults m d fs (inside 1 p) (λ q. rows)
  array_faults m d (union mode stated ids fs) p zero = node_faults m p 0 ++ child_faults m d fs (inside (union_buffers m.version mode) p) (λ q. 0)
  array_faults m d (union Sparse stated ids fs) p (suc n) =
      node_faults m p (suc n) ++ union_faults m Sparse ids fs p (suc n) ++ child_faults m d fs (inside (union_buffers m.version Sparse) p) (λ q. suc n)
  array_faults m d (union Dense stated ids fs) p (suc n) = node_faults m p (suc n) ++ union_faults m Dense ids fs p (suc n)
      ++ child_faults m d fs (inside (union_buffers m.version Dense) p) (λ q. magnitude (node_of m q.node).length)
  array_faults m d (extension name metadata k) p rows = array_faults m d k p rows
  array_faults m d (dictionary t ordered id k) p rows = node_faults m p rows ++ flat_faults m d (dictionary t ordered id k) p rows
  array_faults m d k p rows = node_faults m p rows ++ flat_faults m d k p rows

  -- those of children that stand from a place on, each read for the rows that its place says; behind a view without its count no place is known
  pub child_faults : RecordBatch → Dictionaries → Fields → Place → (Place → ℕ) → List IpcError
  child_faults m d none p rows = []
  child_faults m d (field name nullable metadata k others) p rows =
      array_faults m d k p (rows p) ++ if_sound (view_count_faults m k p) (child_faults m d others (after m k p) rows)

-- a top column's node has the batch's length; one that is negative is told by its own name
abbrev pub top_node_faults : Option FieldNode → ℕ → List IpcError
top_node_faults None rows = []
top_node_faults (Some node) rows = cause (not (is_negative node.length) && not (nat_eq (magnitude node.length) rows)) (OutOfSpec kinds.NodeLength)

-- a top column: its counts, its node of exactly the batch's length, and its array
unfoldable pub column_faults : RecordBatch → Dictionaries → Kind → Place → ℕ → ℕ → List IpcError
column_faults m d k p rows few = count_faults m k p ++ top_node_faults (slice_get m.nodes p.node) rows ++ array_faults m d k p few
