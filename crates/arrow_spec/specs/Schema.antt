-- The schema of a message or a footer. (Arrow Columnar Format, "Schema message", Schema.fbs; "Extension Types"; "Custom Application Metadata".)
use Rattle.std.specs.Prelude.{ℕ, zero, suc, ◌+◌, ◌*◌, List, [], ◌∷◌, length, Bool, true, false, Option, Some, None, Result, Ok, nat_le, nat_lt, nat_eq, not, ◌&&◌, ◌||◌, if◌then◌else◌, ℤ, pos, negsuc, codes}
use Rattle.std.specs.Int.{w8, w16, w32, w64}
use Rattle.std.specs.Str.{bytes_eq}
use Rattle.arrow_spec.specs.declared.error.FlatError.{FlatError}
use Rattle.arrow_spec.specs.declared.error.FlatError.TheVariants.{Number}
use Rattle.arrow_spec.specs.declared.error.IpcError.TheVariants.{OutOfSpec, TooMany, TooDeep, Unsupported}
use Rattle.arrow_spec.specs.declared.error.Counted.TheVariants as counted
use Rattle.arrow_spec.specs.declared.error.Feature.TheVariants as features
use Rattle.arrow_spec.specs.declared.error.OutOfSpecKind.{OutOfSpecKind}
use Rattle.arrow_spec.specs.declared.error.OutOfSpecKind.TheVariants.{InvalidFlatbufferSchema, MissingFields, MissingType, InvalidDataType, InvalidIdDataType}
use Rattle.arrow_spec.specs.declared.types.IntegerType.{IntegerType}
use Rattle.arrow_spec.specs.declared.types.IntegerType.TheVariants.{Int8, Int16, Int32, Int64, Int128, UInt8, UInt16, UInt32, UInt64}
use Rattle.arrow_spec.specs.Readings.{◌>>=◌, Reading, refuse, damaged, unsupported, unless, only_if, in_terms_of, each, as_kind, is_absent, required, natural}
use Rattle.arrow_spec.specs.Flat.{Table, Vector, Order, little, big, or_default, signed_at, slot_unsigned, slot_signed, slot_bool, slot_table, slot_vector, slot_text, target, table_at}
use Rattle.arrow_spec.specs.declared.types.TimeUnit.{TimeUnit}
use Rattle.arrow_spec.specs.declared.types.TimeUnit.TheVariants.{Second, Millisecond, Microsecond, Nanosecond}
use Rattle.arrow_spec.specs.declared.types.IntervalUnit.TheVariants.{YearMonth, DayTime, MonthDayNano}
use Rattle.arrow_spec.specs.declared.types.UnionMode.TheVariants.{Dense, Sparse}
use Rattle.arrow_spec.specs.Kinds as kind
use Rattle.arrow_spec.specs.Kinds.{Kind, Fields, none, field, Metadata, Offsets, small, large, width, same, Use, uses_in, values_under, agrees_with}

-- byte order, fields and pairs (Schema.fbs, Schema)
pub record Schema : Type 0 where
  pub order : Order
  pub fields : Fields
  pub metadata : Metadata

-- a part of the schema, out of range or no text
abbrev pub schema_part : {A : Type 0} → Result A FlatError → Reading A
schema_part r = in_terms_of (λ f. OutOfSpec (InvalidFlatbufferSchema f) ∷ []) r

-- a number that the format does not list
abbrev pub not_listed : {A : Type 0} → Reading A
not_listed = damaged (InvalidFlatbufferSchema Number)

-- an absent vector is an empty one
abbrev pub empty_vector : Option Vector → Vector
empty_vector v = or_default (record { first = 0; count = 0 }) v

-- ── pairs ──

-- an order of texts by their bytes: whether the first stands before the Second
abbrev pub stands_before : List ℕ → List ℕ → Bool
stands_before [] [] = false
stands_before [] (b ∷ bs) = true
stands_before (a ∷ as') [] = false
stands_before (a ∷ as') (b ∷ bs) = nat_lt a b || (nat_eq a b && stands_before as' bs)

-- the map with this value under this key
abbrev pub with_pair : List ℕ → List ℕ → Metadata → Metadata
with_pair key value [] = (key, value) ∷ []
with_pair key value (x ∷ xs) =
    if bytes_eq key x.0 then (key, value) ∷ xs else if stands_before key x.0 then (key, value) ∷ x ∷ xs else x ∷ with_pair key value xs

-- the map without a key
abbrev pub without_key : List ℕ → Metadata → Metadata
without_key key [] = []
without_key key (x ∷ xs) = if bytes_eq key x.0 then xs else x ∷ without_key key xs

-- the value under a key
abbrev pub value_of : List ℕ → Metadata → Option (List ℕ)
value_of key [] = None
value_of key (x ∷ xs) = if bytes_eq key x.0 then Some x.1 else value_of key xs

-- a pair without key or value is passed over, and a repeated key's last value stands
abbrev pub with_read_pair : Option (List ℕ) → Option (List ℕ) → Metadata → Metadata
with_read_pair (Some key) (Some value) m = with_pair key value m
with_read_pair None value m = m
with_read_pair (Some key) None m = m

-- n pairs of a part, whose offsets stand from a place on (Schema.fbs, KeyValue)
unfoldable pub pairs_from : (FlatError → OutOfSpecKind) → List ℕ → ℕ → ℕ → Metadata → Reading Metadata
pairs_from kind b at zero m = Ok m
pairs_from kind b at (suc n) m = do
  t ← as_kind kind (target b at >>= λ p. table_at b p)
  key ← as_kind kind (slot_text b t 0)
  value ← as_kind kind (slot_text b t 1)
  pairs_from kind b (at + 4) n (with_read_pair key value m)

-- how many fields and pairs stand before a place of the schema
pub record Before : Type 0 where
  pub fields : ℕ
  pub pairs : ℕ

-- the pairs in a slot, and how many pairs there are up to their end
unfoldable pub pairs_of : List ℕ → Table → ℕ → ℕ → Reading (Metadata × ℕ)
pairs_of b t slot before = do
  v ← schema_part (slot_vector 4 b t slot)
  room ← unless (nat_le (before + (empty_vector v).count) 1048576) (TooMany counted.Pairs)
  m ← pairs_from InvalidFlatbufferSchema b (empty_vector v).first (empty_vector v).count []
  Ok (m, before + (empty_vector v).count)

-- ── types ──

-- one of the numbers that a slot may have, or its default where it is absent
unfoldable pub choice : ℕ → ℕ → List ℕ → Table → ℕ → Reading ℕ
choice count d b t slot = do
  n ← schema_part (slot_unsigned w16 d b t slot)
  listed ← only_if (nat_lt n count) (InvalidFlatbufferSchema Number)
  Ok n

-- a number that must not be negative
abbrev pub natural_slot : ℕ → List ℕ → Table → ℕ → Reading ℕ
natural_slot d b t slot = schema_part (slot_signed w32 (pos d) b t slot) >>= natural

-- the first of some cases whose number it is
abbrev pub one_of : {A : Type 0} → ℕ → List (ℕ × A) → Option A
one_of n [] = None
one_of n (x ∷ xs) = if nat_eq n x.0 then Some x.1 else one_of n xs

-- signed integers by their bits
abbrev pub signed_types : List (ℕ × IntegerType)
signed_types = (8, Int8) ∷ (16, Int16) ∷ (32, Int32) ∷ (64, Int64) ∷ (128, Int128) ∷ []

-- unsigned integers by their bits
abbrev pub unsigned_types : List (ℕ × IntegerType)
unsigned_types = (8, UInt8) ∷ (16, UInt16) ∷ (32, UInt32) ∷ (64, UInt64) ∷ []

-- an integer type by bits and sign
abbrev pub integer_of : ℕ → Bool → Reading IntegerType
integer_of bits signed = required (OutOfSpec InvalidDataType) (one_of bits (if signed then signed_types else unsigned_types))

-- an integer type (Schema.fbs, Int)
unfoldable pub integer_at : List ℕ → Table → Reading IntegerType
integer_at b t = do
  bits ← natural_slot 0 b t 0
  signed ← schema_part (slot_bool b t 1)
  integer_of bits signed

-- a unit by its number (Schema.fbs, TimeUnit)
abbrev pub unit_of : ℕ → TimeUnit
unit_of zero = Second
unit_of (suc zero) = Millisecond
unit_of (suc (suc zero)) = Microsecond
unit_of (suc (suc (suc n))) = Nanosecond

-- seconds and milliseconds take 32 bits, the finer units 64 (Schema.fbs, Time)
abbrev pub time_of : ℕ → ℕ → Reading Kind
time_of bits unit = elim (nat_eq bits 32 && nat_lt unit 2) [
  | true ↦ Ok (kind.time32 (unit_of unit))
  | false ↦ elim
      (nat_eq bits 64 && nat_le 2 unit) [ true ↦ Ok (kind.time64 (unit_of unit)) | false ↦ damaged InvalidDataType ]
]

-- a scale that is not negative
abbrev pub natural_scale : ℤ → Reading ℕ
natural_scale (pos n) = Ok n
natural_scale (negsuc n) = unsupported features.NegativeScale

-- decimals by their bits (Schema.fbs, Decimal)
abbrev pub decimal_of : ℕ → ℕ → ℕ → Reading Kind
decimal_of bits precision scale = required (OutOfSpec InvalidDataType) (one_of bits
    ((128, Ok (kind.decimal precision scale)) ∷ (256, Ok (kind.decimal256 precision scale)) ∷ (32, unsupported features.DecimalWidth)
    ∷ (64, unsupported features.DecimalWidth) ∷ [])) >>= λ k. k

-- floats by their number (Schema.fbs, Precision)
abbrev pub float_of : ℕ → Kind
float_of zero = kind.float kind.half
float_of (suc zero) = kind.float kind.single
float_of (suc (suc n)) = kind.float kind.double

-- dates by their number (Schema.fbs, DateUnit)
abbrev pub date_of : ℕ → Kind
date_of zero = kind.date32
date_of (suc n) = kind.date64

-- intervals by their number (Schema.fbs, IntervalUnit)
abbrev pub interval_of : ℕ → Kind
interval_of zero = kind.interval YearMonth
interval_of (suc zero) = kind.interval DayTime
interval_of (suc (suc n)) = kind.interval MonthDayNano

-- a size above 0
abbrev pub positive : ℕ → Reading ℕ
positive zero = unsupported features.ZeroSize
positive (suc n) = Ok (suc n)

-- a decimal (Schema.fbs, Decimal)
unfoldable pub decimal_at : List ℕ → Table → Reading Kind
decimal_at b t = do
  precision ← natural_slot 0 b t 0
  scale ← schema_part (slot_signed w32 (pos 0) b t 1) >>= natural_scale
  bits ← natural_slot 128 b t 2
  decimal_of bits precision scale

-- a time of day (Schema.fbs, Time)
unfoldable pub time_at : List ℕ → Table → Reading Kind
time_at b t = do
  unit ← choice 4 1 b t 0
  bits ← natural_slot 32 b t 1
  time_of bits unit

-- a timestamp (Schema.fbs, Timestamp)
unfoldable pub timestamp_at : List ℕ → Table → Reading Kind
timestamp_at b t = do
  unit ← choice 4 0 b t 0
  tz ← schema_part (slot_text b t 1)
  Ok (kind.timestamp (unit_of unit) tz)

-- 0, 1, .. up to n
abbrev pub counted_ids : ℕ → ℕ → List ℤ
counted_ids i zero = []
counted_ids i (suc n) = pos i ∷ counted_ids (suc i) n

-- an id stands again
abbrev pub is_id_behind : List ℤ → ℤ → Bool
is_id_behind [] x = false
is_id_behind (y ∷ ys) x = same x y || is_id_behind ys x

-- a number in 0 to 127
abbrev pub is_id : ℤ → Bool
is_id (pos n) = nat_le n 127
is_id (negsuc n) = false

-- distinct numbers in 0 to 127
abbrev pub are_ids : List ℤ → Bool
are_ids [] = true
are_ids (x ∷ xs) = is_id x && not (is_id_behind xs x) && are_ids xs

-- a union's ids, counted from 0 where they are absent (Schema.fbs, Union)
unfoldable pub ids_at : List ℕ → Table → ℕ → Reading (Bool × List ℤ)
ids_at b t children = do
  v ← schema_part (slot_vector 4 b t 1)
  ids ← elim v [ None ↦ Ok (counted_ids 0 children) | Some w ↦ schema_part (each (λ i. signed_at w32 b (w.first + 4 * i)) 0 w.count) ]
  right ← only_if (are_ids ids && nat_eq (length ids) children && nat_lt 0 children) InvalidDataType
  Ok (not (is_absent v), ids)

-- What a type table says before its children are read: the kind of such children, of which there are so many.
abbrev pub flat : Kind → Reading (Fields → Kind)
flat k = Ok (λ fs. k)

-- a type with exactly one child
abbrev pub of_one_child : ℕ → (Fields → Kind) → Reading (Fields → Kind)
of_one_child n k = only_if (nat_eq n 1) InvalidDataType >>= λ one. Ok k

-- a union (Schema.fbs, Union)
unfoldable pub union_at : List ℕ → Table → ℕ → Reading (Fields → Kind)
union_at b t children = do
  mode ← choice 2 0 b t 0
  ids ← ids_at b t children
  Ok (λ fs. kind.union (if nat_eq mode 0 then Sparse else Dense) ids.0 ids.1 fs)

-- the type tables, by their tags
pub data Tag : Type 0 where
  null : Tag
  int : Tag
  floating_point : Tag
  binary : Tag
  utf8 : Tag
  bool : Tag
  decimal : Tag
  date : Tag
  time : Tag
  timestamp : Tag
  interval : Tag
  «list» : Tag
  struct : Tag
  union : Tag
  fixed_size_binary : Tag
  fixed_size_list : Tag
  map_of : Tag
  duration : Tag
  large_binary : Tag
  large_utf8 : Tag
  large_list : Tag
  run_end_encoded : Tag
  binary_view : Tag
  utf8_view : Tag
  list_view : Tag
  large_list_view : Tag

-- the numbers of the type tables (Schema.fbs, Type)
abbrev pub tags : List (ℕ × Tag)
tags = (1, null) ∷ (2, int) ∷ (3, floating_point) ∷ (4, binary) ∷ (5, utf8) ∷ (6, bool) ∷ (7, decimal) ∷ (8, date) ∷ (9, time) ∷ (10, timestamp)
    ∷ (11, interval) ∷ (12, «list») ∷ (13, struct) ∷ (14, union) ∷ (15, fixed_size_binary) ∷ (16, fixed_size_list) ∷ (17, map_of) ∷ (18, duration)
    ∷ (19, large_binary) ∷ (20, large_utf8) ∷ (21, large_list) ∷ (22, run_end_encoded) ∷ (23, binary_view) ∷ (24, utf8_view) ∷ (25, list_view)
    ∷ (26, large_list_view) ∷ []

-- whether a type's children are looked at
abbrev pub is_nested : Tag → Bool
is_nested «list» = true
is_nested struct = true
is_nested union = true
is_nested fixed_size_list = true
is_nested map_of = true
is_nested large_list = true
is_nested t = false

-- a type by its tag and its table
unfoldable pub type_at : List ℕ → Table → ℕ → Tag → Reading (Fields → Kind)
type_at b t n null = flat kind.null
type_at b t n int = integer_at b t >>= λ i. flat (kind.integer i)
type_at b t n floating_point = choice 3 0 b t 0 >>= λ p. flat (float_of p)
type_at b t n binary = flat (kind.binary small)
type_at b t n utf8 = flat (kind.utf8 small)
type_at b t n bool = flat kind.boolean
type_at b t n decimal = decimal_at b t >>= λ k. flat k
type_at b t n date = choice 2 1 b t 0 >>= λ u. flat (date_of u)
type_at b t n time = time_at b t >>= λ k. flat k
type_at b t n timestamp = timestamp_at b t >>= λ k. flat k
type_at b t n interval = choice 3 0 b t 0 >>= λ u. flat (interval_of u)
type_at b t n «list» = of_one_child n (λ fs. kind.«list» small fs)
type_at b t n struct = Ok (λ fs. kind.struct fs)
type_at b t n union = union_at b t n
type_at b t n fixed_size_binary = natural_slot 0 b t 0 >>= positive >>= λ w. flat (kind.fixed_size_binary w)
type_at b t n fixed_size_list = natural_slot 0 b t 0 >>= positive >>= λ w. of_one_child n (λ fs. kind.fixed_size_list w fs)
type_at b t n map_of = schema_part (slot_bool b t 0) >>= λ sorted. of_one_child n (λ fs. kind.map sorted fs)
type_at b t n duration = choice 4 1 b t 0 >>= λ u. flat (kind.duration (unit_of u))
type_at b t n large_binary = flat (kind.binary large)
type_at b t n large_utf8 = flat (kind.utf8 large)
type_at b t n large_list = of_one_child n (λ fs. kind.«list» large fs)
type_at b t n run_end_encoded = unsupported features.RunEnd
type_at b t n binary_view = flat kind.binary_view
type_at b t n utf8_view = flat kind.utf8_view
type_at b t n list_view = unsupported features.ListView
type_at b t n large_list_view = unsupported features.ListView

-- a dictionary's index type, order flag and id
pub record Encoding : Type 0 where
  pub index : IntegerType
  pub ordered : Bool
  pub id : ℤ

-- an absent index type is Int32 (Schema.fbs, DictionaryEncoding)
abbrev pub index_at : List ℕ → Option Table → Reading IntegerType
index_at b None = Ok Int32
index_at b (Some i) = integer_at b i

-- a dictionary's table, where there is one
abbrev pub encoding_in : List ℕ → Option Table → Reading (Option Encoding)
encoding_in b None = Ok None
encoding_in b (Some t) = do
  id ← schema_part (slot_signed w64 (pos 0) b t 0)
  index ← schema_part (slot_table b t 1) >>= λ i. index_at b i
  ordered ← schema_part (slot_bool b t 2)
  Ok (Some (record { index = index; ordered = ordered; id = id }))

-- a field's dictionary (Schema.fbs, DictionaryEncoding)
unfoldable pub encoding_at : List ℕ → Table → Reading (Option Encoding)
encoding_at b t = schema_part (slot_table b t 4) >>= λ e. encoding_in b e

-- the key of an extension's name (Arrow Columnar Format, "Extension Types")
abbrev pub extension_name : List ℕ
extension_name = codes "ARROW:extension:name"

-- the key of an extension's metadata
abbrev pub extension_metadata : List ℕ
extension_metadata = codes "ARROW:extension:metadata"

-- a reserved key
abbrev pub is_reserved : List ℕ → Bool
is_reserved key = bytes_eq extension_name key || bytes_eq extension_metadata key

-- a field's own pairs: those of its extension belong to its type
abbrev pub own_pairs : Metadata → Metadata
own_pairs pairs = without_key extension_name (without_key extension_metadata pairs)

-- a field with an extension's name is of that extension
abbrev pub with_extension : Metadata → Kind → Kind
with_extension pairs k = elim (value_of extension_name pairs) [ None ↦ k | Some name ↦ kind.extension name (value_of extension_metadata pairs) k ]

-- a field with a dictionary has keys into it
abbrev pub with_encoding : Option Encoding → Kind → Kind
with_encoding None k = k
with_encoding (Some e) k = kind.dictionary e.index e.ordered e.id k

-- a field by itself, before its children
pub record Head : Type 0 where
  pub name : List ℕ
  pub nullable : Bool
  pub metadata : Metadata
  pub of_children : Fields → Kind
  pub children : Vector
  pub before : Before

-- the children's vector, which is looked at where the type has children
abbrev pub children_at : List ℕ → Table → Tag → Reading Vector
children_at b t tag = elim (is_nested tag) [ true ↦ schema_part (slot_vector 4 b t 5) >>= λ v. Ok (empty_vector v) | false ↦ Ok (empty_vector None) ]

-- a listed tag of a type
abbrev pub tag_of : ℕ → Reading Tag
tag_of zero = damaged MissingType
tag_of (suc n) = required (OutOfSpec (InvalidFlatbufferSchema Number)) (one_of (suc n) tags)

-- a field before its children (Schema.fbs, Field)
unfoldable pub head_at : List ℕ → ℕ → Before → Reading Head
head_at b at before = do
  room ← unless (nat_lt before.fields 65536) (TooMany counted.Fields)
  t ← schema_part (target b at >>= λ p. table_at b p)
  name ← schema_part (slot_text b t 0)
  nullable ← schema_part (slot_bool b t 1)
  number ← schema_part (slot_unsigned w8 0 b t 2)
  tag ← tag_of number
  type ← schema_part (slot_table b t 3) >>= required (OutOfSpec MissingType)
  encoding ← encoding_at b t
  children ← children_at b t tag
  pairs ← pairs_of b t 6 before.pairs
  kind ← type_at b type children.count tag
  Ok (record {
    name = or_default [] name;
    nullable = nullable;
    metadata = own_pairs pairs.0;
    of_children = λ fs. with_encoding encoding (with_extension pairs.0 (kind fs));
    children = children;
    before = record { fields = suc before.fields; pairs = pairs.1 };
  })

-- a map's child is a struct of two fields, extensions looked through
abbrev pub is_struct_of_two : Kind → Bool
is_struct_of_two (kind.struct fs) = nat_eq (width fs) 2
is_struct_of_two (kind.extension name metadata k) = is_struct_of_two k
is_struct_of_two k = false

-- the first field is a struct of two
abbrev pub first_is_struct_of_two : Fields → Bool
first_is_struct_of_two none = false
first_is_struct_of_two (field name nullable metadata k others) = is_struct_of_two k

-- what a kind asks of its children
abbrev pub is_whole : Kind → Bool
is_whole (kind.map sorted fs) = first_is_struct_of_two fs
is_whole (kind.dictionary index ordered id k) = is_whole k
is_whole (kind.extension name metadata k) = is_whole k
is_whole k = true

-- n fields, each read by itself, and what stands before the next one
unfoldable pub fields_by : (ℕ → Before → Reading (Head × Kind × Before)) → ℕ → ℕ → Before → Reading (Fields × Before)
fields_by one at zero before = Ok (none, before)
fields_by one at (suc n) before = do
  first ← one at before
  others ← fields_by one (at + 4) n first.2
  Ok (field first.0.name first.0.nullable first.0.metadata first.1 others.0, others.1)

-- a field and the fields below it, of which there may be so many levels
unfoldable pub field_at : ℕ → List ℕ → ℕ → Before → Reading (Head × Kind × Before)
field_at zero b at before = refuse TooDeep
field_at (suc levels) b at before = do
  head ← head_at b at before
  children ← fields_by (λ p earlier. field_at levels b p earlier) head.children.first head.children.count head.before
  whole ← only_if (is_whole (head.of_children children.0)) InvalidDataType
  Ok (head, head.of_children children.0, children.1)

-- a field has this name
abbrev pub has_name : List ℕ → Fields → Bool
has_name name none = false
has_name name (field other nullable metadata k others) = bytes_eq name other || has_name name others

-- no two fields have one name
abbrev pub has_distinct_names : Fields → Bool
has_distinct_names none = true
has_distinct_names (field name nullable metadata k others) = not (has_name name others) && has_distinct_names others

-- a byte order by its number (Schema.fbs, Endianness)
abbrev pub order_of : ℕ → Reading Order
order_of zero = Ok little
order_of (suc zero) = Ok big
order_of (suc (suc n)) = not_listed

-- little-endian
abbrev pub is_little : Order → Bool
is_little little = true
is_little big = false

-- the values under each id are of one kind: uses that follow some earlier ones
abbrev pub uses_agree : List Use → List Use → Reading (Unit {0})
uses_agree earlier [] = Ok tt
uses_agree earlier (u ∷ us) = only_if (agrees_with (values_under u.id earlier) u.values) (InvalidIdDataType u.id) >>= λ right. uses_agree (u ∷ earlier) us

-- the schema's own slots stand before its fields, and what speaks of two fields at its end
unfoldable pub schema_of : List ℕ → Table → Reading Schema
schema_of b t = do
  order ← schema_part (slot_unsigned w16 0 b t 0) >>= order_of
  pairs ← pairs_of b t 2 0
  v ← schema_part (slot_vector 4 b t 1) >>= required (OutOfSpec MissingFields)
  fields ← fields_by (λ p before. field_at 64 b p before) v.first v.count (record { fields = 0; pairs = pairs.1 })
  distinct ← unless (has_distinct_names fields.0) (Unsupported features.DuplicateField)
  uses ← uses_agree [] (uses_in fields.0)
  Ok (record { order = order; fields = fields.0; metadata = pairs.0 })
