-- The messages that a stream is written with. (Arrow Columnar Format, "IPC Streaming Format"; what a writer may choose is chosen here.)
use Rattle.std.specs.Prelude.{ℕ, zero, suc, ◌+◌, ◌-◌, ◌*◌, ◌/◌, min, List, [], ◌∷◌, ◌++◌, length, Bool, true, false, Option, Some, None, ℤ, pos, negsuc, nat_le, nat_lt, nat_eq, ◌&&◌, ◌||◌, if◌then◌else◌, not, sum_by}
use Rattle.std.specs.Prelude.{map as each_of}
use Rattle.std.specs.List.{flat_map}
use Rattle.std.specs.Int.{Width, w8, w16, w32, w64, to_le_bytes, cast_unsigned, byte_len}
use Rattle.arrow_spec.specs.declared.types.IntegerType.{IntegerType}
use Rattle.arrow_spec.specs.Flat.{Order, little, big}
use Rattle.arrow_spec.specs.declared.types.TimeUnit.{TimeUnit}
use Rattle.arrow_spec.specs.declared.types.TimeUnit.TheVariants.{Millisecond}
use Rattle.arrow_spec.specs.declared.types.IntervalUnit.TheVariants.{YearMonth, DayTime, MonthDayNano}
use Rattle.arrow_spec.specs.declared.types.UnionMode.TheVariants.{Dense, Sparse}
use Rattle.arrow_spec.specs.Kinds.{same, Kind, Fields, none, field, null, boolean, integer, float, date32, date64, time32, time64, timestamp, duration, interval, decimal, decimal256, binary, utf8, binary_view, utf8_view, fixed_size_binary, «list», fixed_size_list, struct, map, union, dictionary, extension, Offsets, small, large, Metadata, unit_number, half, single, double, dictionary_count, numbered}
use Rattle.arrow_spec.specs.Layout.{Node, Slots, Nodes, up_to, size}
use Rattle.arrow_spec.specs.Layout as layout
use Rattle.arrow_spec.specs.declared.message.FieldNode.{FieldNode}
use Rattle.arrow_spec.specs.declared.message.IpcBuffer.{IpcBuffer}
use Rattle.arrow_spec.specs.declared.message.MetadataVersion.TheVariants.{V5}
use Rattle.arrow_spec.specs.Counts.{RecordBatch, Place, first_place, magnitude, count_at, union_buffers, after, inside, Written}
use Rattle.arrow_spec.specs.Arrays.{Dictionaries, has_nulls, valid, offset, offset_width, range_of, node_of, view_of, u32_of, integer_width, is_unsigned}
use Rattle.arrow_spec.specs.Schema.{extension_name, extension_metadata, own_pairs}
use Rattle.arrow_spec.specs.Readings.{is_absent}

-- ── the schema ──

-- a scalar is left out where it is its default
abbrev pub unless_zero : Width → ℤ → Slots → Slots
unless_zero w (pos zero) s = layout.absent s
unless_zero w (pos (suc n)) s = layout.value w (pos (suc n)) s
unless_zero w (negsuc n) s = layout.value w (negsuc n) s

-- a flag is left out where it is false
abbrev pub flag : Bool → Slots → Slots
flag true s = layout.value w8 (pos 1) s
flag false s = layout.absent s

-- a table of one number
abbrev pub only_value : Width → ℤ → Node
only_value w x = layout.table (unless_zero w x layout.no_more)

-- a table without slots
abbrev pub no_slots : Node
no_slots = layout.table layout.no_more

-- an integer type (Schema.fbs, Int)
abbrev pub int_node : IntegerType → Node
int_node t = layout.table (layout.value w32 (pos (8 * byte_len (integer_width t))) (flag (if is_unsigned t then false else true) layout.no_more))

-- a unit is left out where it is the default, a Millisecond
abbrev pub unit_slot : TimeUnit → Slots → Slots
unit_slot Millisecond s = layout.absent s
unit_slot u s = layout.value w16 (pos (unit_number u)) s

-- a text, if there is one
abbrev pub text_slot : Option (List ℕ) → Slots → Slots
text_slot None s = layout.absent s
text_slot (Some t) s = layout.child (layout.text t) s

-- a union's ids, written where they are stated
abbrev pub ids_slot : Bool → List ℤ → Slots
ids_slot true ids = layout.child (layout.numbers32 ids) layout.no_more
ids_slot false ids = layout.no_more

-- the tag and the table of a type; a dictionary's and an extension's are those of its values
abbrev pub type_tag : Kind → ℤ
type_tag null = pos 1
type_tag (integer t) = pos 2
type_tag (float t) = pos 3
type_tag (binary small) = pos 4
type_tag (binary large) = pos 19
type_tag (utf8 small) = pos 5
type_tag (utf8 large) = pos 20
type_tag boolean = pos 6
type_tag (decimal p s) = pos 7
type_tag (decimal256 p s) = pos 7
type_tag date32 = pos 8
type_tag date64 = pos 8
type_tag (time32 u) = pos 9
type_tag (time64 u) = pos 9
type_tag (timestamp u tz) = pos 10
type_tag (interval u) = pos 11
type_tag («list» small fs) = pos 12
type_tag («list» large fs) = pos 21
type_tag (struct fs) = pos 13
type_tag (union mode stated ids fs) = pos 14
type_tag (fixed_size_binary n) = pos 15
type_tag (fixed_size_list n fs) = pos 16
type_tag (map sorted fs) = pos 17
type_tag (duration u) = pos 18
type_tag binary_view = pos 23
type_tag utf8_view = pos 24
type_tag (dictionary t ordered id k) = type_tag k
type_tag (extension name metadata k) = type_tag k

-- the table of a type (Schema.fbs, Type)
abbrev pub type_node : Kind → Node
type_node (integer t) = int_node t
type_node (float half) = no_slots
type_node (float single) = only_value w16 (pos 1)
type_node (float double) = only_value w16 (pos 2)
type_node (decimal p s) = layout.table (unless_zero w32 (pos p) (unless_zero w32 (pos s) layout.no_more))
type_node (decimal256 p s) = layout.table (unless_zero w32 (pos p) (unless_zero w32 (pos s) (layout.value w32 (pos 256) layout.no_more)))
type_node date32 = layout.table (layout.value w16 (pos 0) layout.no_more)
type_node (time32 u) = layout.table (unit_slot u layout.no_more)
type_node (time64 u) = layout.table (unit_slot u (layout.value w32 (pos 64) layout.no_more))
type_node (timestamp u tz) = layout.table (unless_zero w16 (pos (unit_number u)) (text_slot tz layout.no_more))
type_node (interval YearMonth) = no_slots
type_node (interval DayTime) = only_value w16 (pos 1)
type_node (interval MonthDayNano) = only_value w16 (pos 2)
type_node (union Dense stated ids fs) = layout.table (layout.value w16 (pos 1) (ids_slot stated ids))
type_node (union Sparse stated ids fs) = layout.table (layout.absent (ids_slot stated ids))
type_node (fixed_size_binary n) = only_value w32 (pos n)
type_node (fixed_size_list n fs) = only_value w32 (pos n)
type_node (map sorted fs) = layout.table (flag sorted layout.no_more)
type_node (duration u) = layout.table (unit_slot u layout.no_more)
type_node (dictionary t ordered id k) = type_node k
type_node (extension name metadata k) = type_node k
type_node k = no_slots

-- a dictionary's index type, order flag and id (Schema.fbs, DictionaryEncoding)
abbrev pub encoding_slot : Kind → Slots → Slots
encoding_slot (dictionary t ordered id k) s = layout.child (layout.table (unless_zero w64 id (layout.child (int_node t) (flag ordered layout.no_more)))) s
encoding_slot k s = layout.absent s

-- a pair (Schema.fbs, KeyValue)
abbrev pub pair_node : List ℕ → List ℕ → Node
pair_node key value = layout.table (layout.child (layout.text key) (layout.child (layout.text value) layout.no_more))

-- pairs in order
abbrev pub pair_nodes : Metadata → Nodes
pair_nodes [] = layout.none
pair_nodes (x ∷ xs) = layout.also (pair_node x.0 x.1) (pair_nodes xs)

-- an extension's metadata, if it has any
abbrev pub extension_pair : Option (List ℕ) → Nodes → Nodes
extension_pair None ns = ns
extension_pair (Some value) ns = layout.also (pair_node extension_metadata value) ns

-- an extension's metadata pair and name pair stand before the field's own pairs
abbrev pub field_pairs : Kind → Metadata → Nodes
field_pairs (extension name metadata k) pairs = extension_pair metadata (layout.also (pair_node extension_name name) (pair_nodes (own_pairs pairs)))
field_pairs (dictionary t ordered id (extension name metadata k)) pairs =
    extension_pair metadata (layout.also (pair_node extension_name name) (pair_nodes (own_pairs pairs)))
field_pairs k pairs = pair_nodes (own_pairs pairs)

-- a list of pairs is left out where it is empty
abbrev pub pairs_slot : Nodes → Slots → Slots
pairs_slot layout.none s = layout.absent s
pairs_slot (layout.also n ns) s = layout.child (layout.tables (layout.also n ns)) s

-- a field's node, and the nodes of the children of a kind (Schema.fbs, Field)
abbrev mutual
  pub child_nodes : Kind → Nodes
  child_nodes («list» o fs) = field_nodes fs
  child_nodes (fixed_size_list n fs) = field_nodes fs
  child_nodes (struct fs) = field_nodes fs
  child_nodes (map sorted fs) = field_nodes fs
  child_nodes (union mode stated ids fs) = field_nodes fs
  child_nodes (dictionary t ordered id k) = child_nodes k
  child_nodes (extension name metadata k) = child_nodes k
  child_nodes k = layout.none

  pub field_nodes : Fields → Nodes
  field_nodes none = layout.none
  field_nodes (field name nullable metadata k others) = layout.also (layout.table
      (layout.child (layout.text name) (flag nullable (layout.value w8 (type_tag k)
      (layout.child (type_node k) (encoding_slot k (layout.child (layout.tables (child_nodes k)) (pairs_slot (field_pairs k metadata) layout.no_more))))))))
      (field_nodes others)

-- a message: its metadata, and how long its body is
pub record SentMessage : Type 0 where
  pub node : Node
  pub body : ℕ

-- the pairs of a footer or of a message are its last slot, which is left out where there are none
abbrev pub custom_slot : Metadata → Slots
custom_slot [] = layout.no_more
custom_slot (x ∷ xs) = layout.child (layout.tables (pair_nodes (x ∷ xs))) layout.no_more

-- the slots of a message of version V5 (Message.fbs, Message)
abbrev pub message_slots : ℕ → Node → ℕ → Metadata → Slots
message_slots tag header body custom =
    layout.value w16 (pos 4) (layout.value w8 (pos tag) (layout.child header (unless_zero w64 (pos body) (custom_slot custom))))

-- a message with its tag and header, how long its body is, and its pairs
abbrev pub message : ℕ → Node → ℕ → Metadata → SentMessage
message tag header body custom = record { node = layout.table (message_slots tag header body custom); body = body }

-- a byte order is left out where it is little-endian (Schema.fbs, Endianness)
abbrev pub order_slot : Order → Slots → Slots
order_slot little s = layout.absent s
order_slot big s = layout.value w16 (pos 1) s

-- the slots of a schema (Schema.fbs, Schema)
abbrev pub schema_slots : Order → Fields → Metadata → Slots
schema_slots order fs pairs = order_slot order (layout.child (layout.tables (field_nodes fs)) (pairs_slot (pair_nodes pairs) layout.no_more))

-- its table
abbrev pub schema_node : Order → Fields → Metadata → Node
schema_node order fs pairs = layout.table (schema_slots order fs pairs)

-- a schema message, and its own pairs
unfoldable pub schema_message : Order → Fields → Metadata → Metadata → SentMessage
schema_message order fs pairs custom = message 1 (schema_node order fs pairs) 0 custom

-- the schema message of a stream that is written: little-endian, with ids that count from 0 in preorder
abbrev pub stream_schema : Fields → Metadata → Metadata → SentMessage
stream_schema fs pairs custom = schema_message little (numbered fs 0) pairs custom

-- ── arrays ──

-- no array
abbrev pub nothing_written : Written
nothing_written = record { nodes = []; lengths = []; views = [] }

-- one array behind another
abbrev pub also_written : Written → Written → Written
also_written a b = record { nodes = a.nodes ++ b.nodes; lengths = a.lengths ++ b.lengths; views = a.views ++ b.views }

-- the rows that are null among n from a row on
abbrev pub null_count : RecordBatch → Place → ℕ → ℕ → ℕ
null_count m p from zero = 0
null_count m p from (suc n) = null_count m p from n + (if valid m p (from + n) then 0 else 1)

-- a validity is held where one was read
abbrev pub validity_length : RecordBatch → Place → ℕ → ℕ → ℕ
validity_length m p zero rows = 0
validity_length m p (suc read) rows = if has_nulls m p then (rows + 7) / 8 else 0

-- an array's own node and buffers
abbrev pub own : RecordBatch → Place → ℕ → ℕ → ℕ → List ℕ → Written
own m p read from rows lengths = record {
  nodes = record { length = pos rows; null_count = pos (null_count m p from rows) } ∷ [];
  lengths = validity_length m p read rows ∷ lengths;
  views = [];
}

-- the stated lengths of n buffers
abbrev pub lengths_on : RecordBatch → ℕ → ℕ → List ℕ
lengths_on m i zero = []
lengths_on m i (suc n) = magnitude (range_of m i).length ∷ lengths_on m (suc i) n

-- the same with view counts
abbrev pub with_views : List ℕ → Written → Written
with_views counts w = record { nodes = w.nodes; lengths = w.lengths; views = counts }

-- a view array as it is held: with no buffers where it was read for no rows
abbrev pub views_written : RecordBatch → Place → ℕ → ℕ → ℕ → Written
views_written m p zero from rows = with_views (0 ∷ []) (own m p 0 from rows (16 * rows ∷ []))
views_written m p (suc read) from rows =
    with_views (count_at m p.view ∷ []) (own m p (suc read) from rows (16 * rows ∷ lengths_on m (p.buffer + 2) (count_at m p.view)))

-- the rows for which a list's child was read
abbrev pub offset_read : RecordBatch → Offsets → Place → ℕ → ℕ
offset_read m o p zero = 0
offset_read m o p (suc n) = offset m o (p.buffer + 1) (suc n)

-- a dense union's child is held whole
abbrev pub dense_rows : RecordBatch → Place → ℕ → ℕ
dense_rows m q zero = 0
dense_rows m q (suc n) = magnitude (node_of m q.node).length

-- what is written of an array that was read for so many rows: those from a row on
abbrev mutual
  pub written_part : RecordBatch → Kind → Place → ℕ → ℕ → ℕ → Written
  written_part m null p read from rows = record { nodes = record { length = pos rows; null_count = pos rows } ∷ []; lengths = []; views = [] }
  written_part m boolean p read from rows = own m p read from rows ((rows + 7) / 8 ∷ [])
  written_part m (integer t) p read from rows = own m p read from rows (byte_len (integer_width t) * rows ∷ [])
  written_part m (float t) p read from rows = nothing_written
  written_part m date32 p read from rows = own m p read from rows (4 * rows ∷ [])
  written_part m date64 p read from rows = own m p read from rows (8 * rows ∷ [])
  written_part m (time32 u) p read from rows = own m p read from rows (4 * rows ∷ [])
  written_part m (time64 u) p read from rows = own m p read from rows (8 * rows ∷ [])
  written_part m (timestamp u tz) p read from rows = own m p read from rows (8 * rows ∷ [])
  written_part m (duration u) p read from rows = own m p read from rows (8 * rows ∷ [])
  written_part m (interval YearMonth) p read from rows = own m p read from rows (4 * rows ∷ [])
  written_part m (interval DayTime) p read from rows = own m p read from rows (8 * rows ∷ [])
  written_part m (interval MonthDayNano) p read from rows = own m p read from rows (16 * rows ∷ [])
  written_part m (decimal precision scale) p read from rows = own m p read from rows (16 * rows ∷ [])
  written_part m (decimal256 precision scale) p read from rows = nothing_written
  written_part m (binary o) p read from rows =
      own m p read from rows (byte_len (offset_width o) * suc rows ∷ (offset m o (p.buffer + 1) (from + rows) - offset m o (p.buffer + 1) from) ∷ [])
  written_part m (utf8 o) p read from rows =
      own m p read from rows (byte_len (offset_width o) * suc rows ∷ (offset m o (p.buffer + 1) (from + rows) - offset m o (p.buffer + 1) from) ∷ [])
  written_part m binary_view p read from rows = views_written m p read from rows
  written_part m utf8_view p read from rows = views_written m p read from rows
  written_part m (fixed_size_binary n) p read from rows = own m p read from rows (n * rows ∷ [])
  written_part m («list» o fs) p read from rows = also_written (own m p read from rows (byte_len (offset_width o) * suc rows ∷ []))
      (parts_written m fs (inside 2 p) (λ q. offset_read m o p read) (offset m o (p.buffer + 1) from)
      (λ q. offset m o (p.buffer + 1) (from + rows) - offset m o (p.buffer + 1) from))
  written_part m (map sorted fs) p read from rows = also_written (own m p read from rows (4 * suc rows ∷ []))
      (parts_written m fs (inside 2 p) (λ q. offset_read m small p read) (offset m small (p.buffer + 1) from)
      (λ q. offset m small (p.buffer + 1) (from + rows) - offset m small (p.buffer + 1) from))
  written_part m (fixed_size_list n fs) p read from rows =
      also_written (own m p read from rows []) (parts_written m fs (inside 1 p) (λ q. n * read) (n * from) (λ q. n * rows))
  written_part m (struct fs) p read from rows = also_written (own m p read from rows []) (parts_written m fs (inside 1 p) (λ q. read) from (λ q. rows))
  written_part m (union Sparse stated ids fs) p read from rows = also_written
      (record { nodes = record { length = pos rows; null_count = pos 0 } ∷ []; lengths = rows ∷ []; views = [] })
      (parts_written m fs (inside (union_buffers m.version Sparse) p) (λ q. read) from (λ q. rows))
  written_part m (union Dense stated ids fs) p read from rows = also_written
      (record { nodes = record { length = pos rows; null_count = pos 0 } ∷ []; lengths = rows ∷ 4 * rows ∷ []; views = [] })
      (parts_written m fs (inside (union_buffers m.version Dense) p) (λ q. dense_rows m q read) 0 (λ q. dense_rows m q read))
  written_part m (dictionary t ordered id k) p read from rows = own m p read from rows (byte_len (integer_width t) * rows ∷ [])
  written_part m (extension name metadata k) p read from rows = written_part m k p read from rows

  pub parts_written : RecordBatch → Fields → Place → (Place → ℕ) → ℕ → (Place → ℕ) → Written
  parts_written m none p read from rows = nothing_written
  parts_written m (field name nullable metadata k others) p read from rows =
      also_written (written_part m k p (read p) from (rows p)) (parts_written m others (after m k p) read from rows)

-- the part of an array that is written
unfoldable pub written : RecordBatch → Kind → Place → ℕ → ℕ → ℕ → Written
written m k p read from rows = written_part m k p read from rows

-- ── a top view column is laid anew where much of its buffers is unused ──

-- the length of a value that is not null
abbrev pub view_length : RecordBatch → Place → ℕ → ℕ
view_length m p row = if valid m p row then u32_of (view_of m p row) 0 else 0

-- their sum
abbrev pub view_lengths : RecordBatch → Place → ℕ → ℕ
view_lengths m p zero = 0
view_lengths m p (suc n) = view_lengths m p n + view_length m p n

-- a value goes into the buffer that is begun where that is empty or stays within 2^31 - 1 bytes: a buffer that is ended holds something
abbrev pub has_room : ℕ → ℕ → Bool
has_room begun count = nat_eq begun 0 || nat_le (begun + count) 2147483647

-- the lengths of the buffers that take values of more than 12 bytes in row order: n rows from one on, and a buffer begun
abbrev pub compacted : RecordBatch → Place → ℕ → ℕ → ℕ → List ℕ
compacted m p row begun zero = if nat_lt 0 begun then begun ∷ [] else []
compacted m p row begun (suc n) =
    let here = compacted m p (suc row) (begun + view_length m p row) n in
    let passed = compacted m p (suc row) begun n in
    let new = begun ∷ compacted m p (suc row) (view_length m p row) n in
    if nat_le (view_length m p row) 12 then passed else if has_room begun (view_length m p row) then here else new

-- at least min(v, 1024) bytes are unused, where v is the sum of the lengths
abbrev pub needs_compaction : RecordBatch → Place → ℕ → Bool
needs_compaction m p rows =
    nat_le (min (view_lengths m p rows) 1024) (sum_by (λ x. x) (lengths_on m (p.buffer + 2) (count_at m p.view)) - view_lengths m p rows)

-- a view column that is laid anew
abbrev pub compacted_written : RecordBatch → Place → ℕ → Written
compacted_written m p rows =
    let new = compacted m p 0 0 rows in
    with_views (length new ∷ []) (own m p rows 0 rows (16 * rows ∷ new))

-- a top view column
abbrev pub top_views_written : RecordBatch → Place → ℕ → Written
top_views_written m p zero = views_written m p 0 0 0
top_views_written m p (suc n) = if needs_compaction m p (suc n) then compacted_written m p (suc n) else views_written m p (suc n) 0 (suc n)

-- a top column
abbrev pub top_written : RecordBatch → Kind → Place → ℕ → Written
top_written m binary_view p rows = top_views_written m p rows
top_written m utf8_view p rows = top_views_written m p rows
top_written m (extension name metadata k) p rows = top_written m k p rows
top_written m k p rows = written m k p rows 0 rows

-- ── messages ──

-- a number of eight bytes
abbrev pub i64_bytes : ℤ → List ℕ
i64_bytes x = to_le_bytes w64 (cast_unsigned w64 x)

-- a node (Message.fbs, FieldNode)
abbrev pub node_bytes : FieldNode → List ℕ
node_bytes x = i64_bytes x.length ++ i64_bytes x.null_count

-- a buffer (Message.fbs, Buffer)
abbrev pub buffer_bytes : IpcBuffer → List ℕ
buffer_bytes x = i64_bytes x.offset ++ i64_bytes x.length

-- nodes
abbrev pub nodes_node : List FieldNode → Node
nodes_node xs = layout.structs (length xs) (flat_map node_bytes xs)

-- buffers
abbrev pub buffers_node : List IpcBuffer → Node
buffers_node xs = layout.structs (length xs) (flat_map buffer_bytes xs)

-- buffers of these lengths, each from a multiple of 64 on
abbrev pub placed : ℕ → List ℕ → List IpcBuffer
placed at [] = []
placed at (n ∷ ns) = record { offset = pos at; length = pos n } ∷ placed (up_to 64 (at + n)) ns

-- where a body ends that begins at a place
abbrev pub body_of : ℕ → List ℕ → ℕ
body_of at [] = at
body_of at (n ∷ ns) = body_of (up_to 64 (at + n)) ns

-- view counts are left out where there are none
abbrev pub views_slot : List ℕ → Slots → Slots
views_slot [] s = layout.absent s
views_slot (n ∷ ns) s = layout.child (layout.numbers64 (each_of pos (n ∷ ns))) s

-- the slots of a record batch (Message.fbs, RecordBatch)
abbrev pub batch_slots : ℕ → Written → Slots
batch_slots rows w = unless_zero w64 (pos rows) (layout.child (nodes_node w.nodes)
    (layout.child (buffers_node (placed 0 w.lengths)) (layout.absent (views_slot w.views layout.no_more))))

-- its table
abbrev pub batch_node : ℕ → Written → Node
batch_node rows w = layout.table (batch_slots rows w)

-- the file's columns in order
abbrev pub columns_written : RecordBatch → Option (List ℕ) → Fields → ℕ → Place → ℕ → List Written
columns_written m asked none c p rows = []
columns_written m asked (field name nullable metadata k others) c p rows = top_written m k p rows ∷ columns_written m asked others (suc c) (after m k p) rows

-- the c-th column
abbrev pub written_at : List Written → ℕ → Written
written_at [] c = nothing_written
written_at (w ∷ ws) zero = w
written_at (w ∷ ws) (suc c) = written_at ws c

-- columns one after another
abbrev pub all_written : List Written → Written
all_written [] = nothing_written
all_written (w ∷ ws) = also_written w (all_written ws)

-- the columns asked for, in the order asked
abbrev pub written_as_asked : Option (List ℕ) → List Written → Written
written_as_asked None ws = all_written ws
written_as_asked (Some cs) ws = all_written (each_of (λ c. written_at ws c) cs)

-- a batch of so many rows in the columns asked for, with its pairs
unfoldable pub batch_message : RecordBatch → Option (List ℕ) → Fields → ℕ → Metadata → SentMessage
batch_message m asked fs rows custom =
    let w = written_as_asked asked (columns_written m asked fs 0 first_place rows) in
    message 3 (batch_node rows w) (body_of 0 w.lengths) custom

-- the rows of the first node
abbrev pub node_rows : List FieldNode → ℕ
node_rows [] = 0
node_rows (x ∷ xs) = magnitude x.length

-- the slots of a dictionary batch, which is a delta or not (Message.fbs, DictionaryBatch)
abbrev pub dictionary_slots : ℕ → Bool → Written → Slots
dictionary_slots id is_delta w = unless_zero w64 (pos id) (layout.child (batch_node (node_rows w.nodes) w) (flag is_delta layout.no_more))

-- a dictionary message (Message.fbs, DictionaryBatch)
abbrev pub dictionary_message : ℕ → Bool → Written → SentMessage
dictionary_message id is_delta w = message 2 (layout.table (dictionary_slots id is_delta w)) (body_of 0 w.lengths) []

-- a batch of nothing
abbrev pub no_source : RecordBatch
no_source = record { order = little; version = V5; nodes = []; buffers = []; variadic = []; body = [] }

-- a part of a dictionary, one a message: how many cells it has, what it is written with, and the dictionaries that it was read under
pub record Part : Type 0 where
  pub count : ℕ
  pub written : Written
  pub under : Dictionaries

-- the parts before a message's: none where it is no delta
abbrev pub parts_before : Bool → List Part → List Part
parts_before false ps = []
parts_before true ps = ps

-- the parts that were read under an id
abbrev pub parts_read : Dictionaries → ℤ → List Part
parts_read [] id = []
parts_read (x ∷ xs) id = if same x.id id then parts_before x.is_delta (parts_read xs id)
    ++ record { count = length x.cells; written = x.written; under = xs } ∷ [] else parts_read xs id

-- a dictionary that was never read is one empty part
abbrev pub or_one_empty : Kind → List Part → List Part
or_one_empty k [] = record { count = 0; written = written no_source k first_place 0 0 0; under = [] } ∷ []
or_one_empty k (p ∷ ps) = p ∷ ps

-- the parts of a dictionary of such values
abbrev pub parts_of : Dictionaries → ℤ → Kind → List Part
parts_of d id k = or_one_empty k (parts_read d id)

-- The parts that hold cells from a number on. What was sent of a file's dictionary ends with a part of it, since only deltas follow.
abbrev pub parts_beyond : ℕ → List Part → List Part
parts_beyond n [] = []
parts_beyond n (p ∷ ps) = if nat_le p.count n then parts_beyond (n - p.count) ps else p ∷ parts_beyond 0 ps

-- Where nothing was sent yet, the first part and each further one that holds cells; else those that hold cells beyond what was sent.
abbrev pub parts_to_send : Option ℕ → List Part → List Part
parts_to_send None [] = []
parts_to_send None (p ∷ ps) = p ∷ parts_beyond 0 ps
parts_to_send (Some n) ps = parts_beyond n ps

-- the messages so far, and how many cells were sent under each new id, the latest first
pub record Sending : Type 0 where
  pub messages : List SentMessage
  pub counts : List (ℕ × ℕ)

-- how many cells were sent under an id, if any message was
abbrev pub sent_under : List (ℕ × ℕ) → ℕ → Option ℕ
sent_under [] id = None
sent_under (x ∷ xs) id = if nat_eq x.0 id then Some x.1 else sent_under xs id

-- one message more
abbrev pub with_message : SentMessage → Sending → Sending
with_message x s = record { messages = s.messages ++ x ∷ []; counts = s.counts }

-- parts in order, each behind what its inner dictionaries need; all but the first are deltas, and it too where it follows others
abbrev pub send_parts : (Dictionaries → Sending → Sending) → ℕ → Bool → List Part → Sending → Sending
send_parts inner id is_delta [] s = s
send_parts inner id is_delta (p ∷ ps) s = send_parts inner id true ps (with_message (dictionary_message id is_delta p.written) (inner p.under s))

-- how many cells parts have
abbrev pub cell_count : List Part → ℕ
cell_count ps = sum_by (λ p. p.count) ps

-- so many cells are sent under an id
abbrev pub counted : ℕ → ℕ → Sending → Sending
counted id n s = record { messages = s.messages; counts = (id, n) ∷ s.counts }

-- what is to be sent of a dictionary's parts under an id
abbrev pub send_dictionary : (Dictionaries → Sending → Sending) → ℕ → List Part → Sending → Sending
send_dictionary inner id ps s =
    counted id (cell_count ps) (send_parts inner id (not (is_absent (sent_under s.counts id))) (parts_to_send (sent_under s.counts id) ps) s)

-- what is to be sent of the dictionaries of a kind that was read under some, inner ones first, whose ids count from a number on
abbrev mutual
  pub send_kind : Dictionaries → Kind → ℕ → Sending → Sending
  send_kind d («list» o fs) id s = send_fields d fs id s
  send_kind d (fixed_size_list n fs) id s = send_fields d fs id s
  send_kind d (struct fs) id s = send_fields d fs id s
  send_kind d (map sorted fs) id s = send_fields d fs id s
  send_kind d (union mode stated ids fs) id s = send_fields d fs id s
  send_kind d (dictionary t ordered old k) id s = send_dictionary (λ e u. send_kind e k (suc id) u) id (parts_of d old k) s
  send_kind d (extension name metadata k) id s = send_kind d k id s
  send_kind d k id s = s

  pub send_fields : Dictionaries → Fields → ℕ → Sending → Sending
  send_fields d none id s = s
  send_fields d (field name nullable metadata k others) id s = send_fields d others (id + dictionary_count k) (send_kind d k id s)

-- nothing was sent yet
abbrev pub nothing_sent : Sending
nothing_sent = record { messages = []; counts = [] }

-- the dictionaries of a schema, part by part, each inner one before the part that it stands in
unfoldable pub dictionary_messages : Dictionaries → Fields → List SentMessage
dictionary_messages d fs = (send_fields d fs 0 nothing_sent).messages

-- a message may be written: its metadata, padded, and its body
unfoldable pub may_be_sent : SentMessage → Bool
may_be_sent x = nat_le (up_to 8 (size x.node)) 2147483647 && nat_le x.body 9223372036854775807

-- each of them may be written
abbrev pub all_may_be_sent : List SentMessage → Bool
all_may_be_sent [] = true
all_may_be_sent (x ∷ xs) = may_be_sent x && all_may_be_sent xs
