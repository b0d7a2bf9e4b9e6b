-- The parts of the array that stands at a place of a record batch, as far as its first rows go. (Arrow Columnar Format, "Buffer Listing for Each Layout".)
use Rattle.std.specs.Prelude.{ℕ, zero, suc, ◌+◌, ◌*◌, List, [], ◌∷◌, take, drop, Bool, Option, Some, None, if◌then◌else◌, ℤ, pos}
use Rattle.std.specs.Int.{w8, w16, w32, w64, w128}
use Rattle.arrow_spec.specs.Flat.{Order, little}
use Rattle.arrow_spec.specs.declared.types.IntegerType.{IntegerType}
use Rattle.arrow_spec.specs.declared.types.UnionMode.TheVariants.{Dense, Sparse}
use Rattle.arrow_spec.specs.Kinds as kind
use Rattle.arrow_spec.specs.Kinds.{Kind, Fields, Offsets, small, large, «list», map, fixed_size_list, struct, union, dictionary, extension, field}
use Rattle.arrow_spec.specs.Counts.{RecordBatch, Place, count_at, union_buffers, after, inside}
use Rattle.arrow_spec.specs.Arrays.{buf, has_nulls, from_on, signed_in, integer_in, offset_width, types_buffer}
use Rattle.arrow_spec.specs.Laws.{AreBytes}
use Rattle.arrow_spec.specs.Sent.{offset_read, dense_rows}
use Rattle.arrow_types.specs.Numbers.{signed_to_bytes, signed_from_bytes, unsigned_to_bytes, unsigned_from_bytes, days_ms_to_bytes, days_ms_from_bytes, months_days_ns_to_bytes, months_days_ns_from_bytes}
use Rattle.arrow_types.specs.Physical.{primitive_size, physical_of}
use Rattle.arrow_types.specs.declared.physical.PhysicalType.{PhysicalType}
use Rattle.arrow_types.specs.declared.physical.PhysicalType.TheVariants as physical
use Rattle.arrow_types.specs.declared.physical.PrimitiveType.{PrimitiveType}
use Rattle.arrow_types.specs.declared.physical.PrimitiveType.TheVariants as primitive
use Rattle.arrow_buffers.specs.Bits.{bits_from}
use Rattle.arrow_buffers.specs.Layouts.{binary_size}
use Rattle.arrow_buffers.specs.Leaf.{Leaf}
use Rattle.arrow_buffers.specs.Variable.{Variable}
use Rattle.arrow_buffers.specs.Views.{Views}
use Rattle.arrow_arrays.specs.LeafParts.{LeafParts, nulls, bits, numbers, fixed, binary, text, binary_views, text_views, number_size}
use Rattle.arrow_arrays.specs.Heads.{Listed, Counted, Tagged, Indexed, listed, mapped, sized, structured, tagged, indexed}
use Rattle.arrow_arrays.specs.Parts.{Parts, Forest, leaf, nested, none, also}
use Rattle.arrow_arrays.specs.EmptyParts.{empty_parts}
use Rattle.ipc_read_laws.specs.PlainKinds.{plain_kind}
use Rattle.ipc_read_laws.specs.Held.{Held}

-- ── validity and values ──

-- the first bits of the i-th buffer
abbrev pub bits_read : RecordBatch → ℕ → ℕ → List Bool
bits_read m i rows = bits_from (buf m i) 0 rows

-- which rows are valid: not given where there are no rows or no nulls
abbrev pub validity_read : RecordBatch → Place → ℕ → Option (List Bool)
validity_read m p zero = None
validity_read m p (suc n) = if has_nulls m p then Some (bits_read m p.buffer (suc n)) else None

-- the bytes of item j of the i-th buffer, where each has so many
abbrev pub item_bytes : RecordBatch → ℕ → ℕ → ℕ → List ℕ
item_bytes m i size j = take size (drop (size * j) (buf m i))

-- the first items of the i-th buffer
abbrev pub items_read : {A : Type 0} → (Order → List ℕ → A) → ℕ → RecordBatch → ℕ → ℕ → List A
items_read read size m i rows = from_on (λ j. read m.order (item_bytes m i size j)) 0 rows

-- values and a validity
abbrev pub leaf_read : {A : Type 0} → (ℕ → ℕ → List A) → RecordBatch → Kind → Place → ℕ → Leaf A
leaf_read values m k p rows = record { kind = k; values = values (p.buffer + 1) rows; validity = validity_read m p rows }

-- truth values
abbrev pub boolean_read : RecordBatch → Kind → Place → ℕ → Leaf Bool
boolean_read m k p rows = leaf_read (λ i n. bits_read m i n) m k p rows

-- numbers of a type
abbrev pub primitive_read : {A : Type 0} → (Order → List ℕ → A) → ℕ → RecordBatch → Kind → Place → ℕ → Leaf A
primitive_read read size m k p rows = leaf_read (λ i n. items_read read size m i n) m k p rows

-- the bytes of rows that have so many each; no buffer is looked at where there are no rows
abbrev pub bytes_of_rows : RecordBatch → ℕ → ℕ → ℕ → List ℕ
bytes_of_rows m size i zero = []
bytes_of_rows m size i (suc n) = take (size * suc n) (buf m i)

-- byte strings of one size
abbrev pub fixed_read : RecordBatch → Kind → Place → ℕ → Leaf ℕ
fixed_read m k p rows = leaf_read (λ i n. bytes_of_rows m (binary_size k) i n) m k p rows

-- ── offsets, and views ──

-- offsets, bytes and a validity; where there are no rows no buffer is looked at
abbrev pub variable_read : RecordBatch → Kind → Offsets → Place → ℕ → Variable
variable_read m k o p zero = record { kind = k; offsets = pos 0 ∷ []; values = []; validity = None }
variable_read m k o p (suc n) = record {
  kind = k;
  offsets = from_on (λ j. signed_in m (offset_width o) (p.buffer + 1) j) 0 (suc (suc n));
  values = buf m (p.buffer + 2);
  validity = validity_read m p (suc n);
}

-- views, the buffers that their count says, and a validity; where there are no rows no buffer is looked at
abbrev pub views_read : RecordBatch → Kind → Place → ℕ → Views
views_read m k p zero = record { kind = k; views = []; buffers = []; validity = None }
views_read m k p (suc n) = record {
  kind = k;
  views = bytes_of_rows m 16 (p.buffer + 1) (suc n);
  buffers = from_on (buf m) (p.buffer + 2) (count_at m p.view);
  validity = validity_read m p (suc n);
}

-- ── any array without children ──

-- a number's bytes, the lowest first, by its bytes in an order
abbrev pub number_read : PrimitiveType → Order → List ℕ → List ℕ
number_read primitive.Int8 order bytes = signed_to_bytes w8 little (signed_from_bytes w8 order bytes)
number_read primitive.Int16 order bytes = signed_to_bytes w16 little (signed_from_bytes w16 order bytes)
number_read primitive.Int32 order bytes = signed_to_bytes w32 little (signed_from_bytes w32 order bytes)
number_read primitive.Int64 order bytes = signed_to_bytes w64 little (signed_from_bytes w64 order bytes)
number_read primitive.Int128 order bytes = signed_to_bytes w128 little (signed_from_bytes w128 order bytes)
number_read primitive.UInt8 order bytes = unsigned_to_bytes w8 little (unsigned_from_bytes w8 order bytes)
number_read primitive.UInt16 order bytes = unsigned_to_bytes w16 little (unsigned_from_bytes w16 order bytes)
number_read primitive.UInt32 order bytes = unsigned_to_bytes w32 little (unsigned_from_bytes w32 order bytes)
number_read primitive.UInt64 order bytes = unsigned_to_bytes w64 little (unsigned_from_bytes w64 order bytes)
number_read primitive.DaysMs order bytes = days_ms_to_bytes little (days_ms_from_bytes order bytes)
number_read primitive.MonthDayNano order bytes = months_days_ns_to_bytes little (months_days_ns_from_bytes order bytes)
number_read p order bytes = []

-- the parts of an array without children in a layout
abbrev pub parts_in : PhysicalType → RecordBatch → Kind → Place → ℕ → LeafParts
parts_in physical.Boolean m k p rows = bits (boolean_read m k p rows)
parts_in (physical.Primitive t) m k p rows = numbers (primitive_read (number_read t) (primitive_size t) m k p rows)
parts_in physical.FixedSizeBinary m k p rows = fixed (fixed_read m k p rows)
parts_in physical.Binary m k p rows = binary (variable_read m k small p rows)
parts_in physical.LargeBinary m k p rows = binary (variable_read m k large p rows)
parts_in physical.Utf8 m k p rows = text (variable_read m k small p rows)
parts_in physical.LargeUtf8 m k p rows = text (variable_read m k large p rows)
parts_in physical.BinaryView m k p rows = binary_views (views_read m k p rows)
parts_in physical.Utf8View m k p rows = text_views (views_read m k p rows)
parts_in layout m k p rows = nulls (record { kind = k; rows = rows })

-- the parts of an array without children
abbrev pub plain_read : RecordBatch → Kind → Place → ℕ → Parts
plain_read m k p rows = leaf (parts_in (physical_of k) m k p rows)

-- the bytes of an array's numbers, as many as are read; none in another layout
abbrev pub numbers_bytes : RecordBatch → Kind → Place → ℕ → List ℕ
numbers_bytes m k p rows = take (number_size (physical_of k) * rows) (buf m (p.buffer + 1))

-- ── arrays with children ──

-- lists or maps: their offsets as they stand; where there are no rows no buffer is looked at
abbrev pub listed_read : RecordBatch → Kind → Offsets → Place → ℕ → Listed
listed_read m k o p zero = record { kind = k; width = o; offsets = pos 0 ∷ []; validity = None }
listed_read m k o p (suc n) = record {
  kind = k;
  width = o;
  offsets = from_on (λ j. signed_in m (offset_width o) (p.buffer + 1) j) 0 (suc (suc n));
  validity = validity_read m p (suc n);
}

-- lists of one size, and structs
abbrev pub counted_read : RecordBatch → Kind → Place → ℕ → Counted
counted_read m k p rows = record { kind = k; rows = rows; validity = validity_read m p rows }

-- unions: their types, and their offsets where they are dense
abbrev pub tagged_read : RecordBatch → Kind → Place → ℕ → Option (List ℤ) → Tagged
tagged_read m k p rows offsets = record { kind = k; types = from_on (λ j. signed_in m w8 (types_buffer m p) j) 0 rows; offsets = offsets }

abbrev pub places_read : RecordBatch → Place → ℕ → List ℤ
places_read m p rows = from_on (λ j. signed_in m w32 (suc (types_buffer m p)) j) 0 rows

-- the keys of a dictionary's rows
abbrev pub indexed_read : RecordBatch → Kind → IntegerType → Place → ℕ → Indexed
indexed_read m k t p rows = record { kind = k; index = t; keys = from_on (λ j. integer_in m t (p.buffer + 1) j) 0 rows; validity = validity_read m p rows }

-- the parts that are held of a dictionary of such values, or one without rows
abbrev pub parts_or_empty : Option Forest → Kind → Forest
parts_or_empty None k = also (empty_parts (plain_kind k)) none
parts_or_empty (Some parts) k = parts

-- the parts of the array of a kind, which a label stands for: an extension that is looked through, without ids;
-- and of children that stand from a place on, each read for the rows that its place says
abbrev mutual
  pub parts_under : Kind → RecordBatch → Held → Kind → Place → ℕ → Parts
  parts_under l m h («list» o fs) p rows = nested (listed (listed_read m l o p rows)) (forest_read m h fs (inside 2 p) (λ q. offset_read m o p rows))
  parts_under l m h (map sorted fs) p rows = nested (mapped (listed_read m l small p rows)) (forest_read m h fs (inside 2 p) (λ q. offset_read m small p rows))
  parts_under l m h (fixed_size_list size fs) p rows = nested (sized (counted_read m l p rows)) (forest_read m h fs (inside 1 p) (λ q. size * rows))
  parts_under l m h (struct fs) p rows = nested (structured (counted_read m l p rows)) (forest_read m h fs (inside 1 p) (λ q. rows))
  parts_under l m h (union Sparse stated ids fs) p rows =
      nested (tagged (tagged_read m l p rows None)) (forest_read m h fs (inside (union_buffers m.version Sparse) p) (λ q. rows))
  parts_under l m h (union Dense stated ids fs) p rows = nested (tagged (tagged_read m l p rows (Some (places_read m p rows))))
      (forest_read m h fs (inside (union_buffers m.version Dense) p) (λ q. dense_rows m q rows))
  parts_under l m h (dictionary t ordered id k) p rows = nested (indexed (indexed_read m l t p rows)) (parts_or_empty (h id) k)
  parts_under l m h (extension name metadata k) p rows = parts_under l m h k p rows
  parts_under l m h k p rows = leaf (parts_in (physical_of k) m l p rows)

  pub forest_read : RecordBatch → Held → Fields → Place → (Place → ℕ) → Forest
  forest_read m h kind.none p rows = none
  forest_read m h (field name nullable metadata k others) p rows =
      also (parts_under (plain_kind k) m h k p (rows p)) (forest_read m h others (after m k p) rows)

-- the parts of an array
abbrev pub parts_read : RecordBatch → Held → Kind → Place → ℕ → Parts
parts_read m h k p rows = parts_under (plain_kind k) m h k p rows

-- the numbers of an array, and of its children, are of bytes as far as they are read
abbrev mutual
  pub HaveBytes : RecordBatch → Kind → Place → ℕ → Type 0
  HaveBytes m («list» o fs) p rows = AllHaveBytes m fs (inside 2 p) (λ q. offset_read m o p rows)
  HaveBytes m (map sorted fs) p rows = AllHaveBytes m fs (inside 2 p) (λ q. offset_read m small p rows)
  HaveBytes m (fixed_size_list size fs) p rows = AllHaveBytes m fs (inside 1 p) (λ q. size * rows)
  HaveBytes m (struct fs) p rows = AllHaveBytes m fs (inside 1 p) (λ q. rows)
  HaveBytes m (union Sparse stated ids fs) p rows = AllHaveBytes m fs (inside (union_buffers m.version Sparse) p) (λ q. rows)
  HaveBytes m (union Dense stated ids fs) p rows = AllHaveBytes m fs (inside (union_buffers m.version Dense) p) (λ q. dense_rows m q rows)
  HaveBytes m (dictionary t ordered id k) p rows = Unit {0}
  HaveBytes m (extension name metadata k) p rows = HaveBytes m k p rows
  HaveBytes m k p rows = AreBytes (numbers_bytes m k p rows)

  pub AllHaveBytes : RecordBatch → Fields → Place → (Place → ℕ) → Type 0
  AllHaveBytes m kind.none p rows = Unit {0}
  AllHaveBytes m (field name nullable metadata k others) p rows = HaveBytes m k p (rows p) × AllHaveBytes m others (after m k p) rows
