-- Parts of a field and of a schema, as they are read one after another (Schema.fbs).
use Rattle.std.specs.Prelude.{ℕ, Bool, suc, List, [], Option, Some, None, nat_lt, nat_eq, Ok}
use Rattle.std.specs.Int.{w8, w16}
use Rattle.arrow_spec.specs.declared.error.IpcError.TheVariants.{OutOfSpec, TooMany}
use Rattle.arrow_spec.specs.declared.error.Counted.TheVariants as counted
use Rattle.arrow_spec.specs.declared.error.OutOfSpecKind.TheVariants.{MissingFields, MissingType, InvalidDataType}
use Rattle.arrow_spec.specs.Readings.{◌>>=◌, Reading, unless, only_if, required}
use Rattle.arrow_spec.specs.Flat.{Table, Vector, or_default, slot_unsigned, slot_bool, slot_table, slot_vector, slot_text, target, table_at}
use Rattle.arrow_spec.specs.declared.types.IntegerType.{IntegerType}
use Rattle.arrow_spec.specs.declared.types.IntegerType.TheVariants.{Int32}
use Rattle.arrow_spec.specs.Kinds.{Kind, Fields, Metadata}
use Rattle.arrow_spec.specs.Schema.{schema_part, Tag, tag_of, Before, Head, pairs_of, encoding_at, integer_at, children_at, type_at, choice, natural_slot, positive, union_at, float_of, date_of, interval_of, unit_of, with_extension, with_encoding, without_key, extension_name, extension_metadata, field_at, fields_by, is_whole, order_of, is_little}
use Rattle.arrow_types.specs.Child.{Child}

-- a text of a table
abbrev pub text_at : List ℕ → Table → ℕ → Reading (Option (List ℕ))
text_at b t slot = schema_part (slot_text b t slot)

-- ── a field ──

-- a dictionary's index type, Int32 where it is absent (Schema.fbs, DictionaryEncoding)
abbrev pub index_by : List ℕ → Option Table → Reading IntegerType
index_by b None = Ok Int32
index_by b (Some i) = integer_at b i

abbrev pub index_at : List ℕ → Table → Reading IntegerType
index_at b t = schema_part (slot_table b t 1) >>= index_by b

unfoldable pub name_at : List ℕ → Table → Reading (List ℕ)
name_at b t = text_at b t 0 >>= λ name. Ok (or_default [] name)

-- the type table of a tag
unfoldable pub tag_part : ℕ → Reading Tag
tag_part n = tag_of n

-- the tag of a field's type, and its type table
unfoldable pub tagged_at : List ℕ → Table → Reading (Tag × Table)
tagged_at b t = do
  number ← schema_part (slot_unsigned w8 0 b t 2)
  tag ← tag_part number
  type ← schema_part (slot_table b t 3) >>= required (OutOfSpec MissingType)
  Ok (tag, type)

-- what a field's type is of its children, the field's own metadata, its children's vector, and how many pairs there are up to its own
pub record Form : Type 0 where
  pub of_children : Fields → Kind
  pub metadata : Metadata
  pub children : Vector
  pub pairs : ℕ

unfoldable pub form_at : List ℕ → Table → Tag → Table → ℕ → Reading Form
form_at b t tag type before = do
  encoding ← encoding_at b t
  children ← children_at b t tag
  pairs ← pairs_of b t 6 before
  kind ← type_at b type children.count tag
  Ok (record {
    of_children = λ fs. with_encoding encoding (with_extension pairs.0 (kind fs));
    metadata = without_key extension_name (without_key extension_metadata pairs.0);
    children = children;
    pairs = pairs.1;
  })

-- a field by its table, before its children
unfoldable pub head_by : List ℕ → Table → Before → Reading Head
head_by b t before = do
  name ← name_at b t
  nullable ← schema_part (slot_bool b t 1)
  tagged ← tagged_at b t
  form ← form_at b t tagged.0 tagged.1 before.pairs
  Ok (record {
    name = name;
    nullable = nullable;
    metadata = form.metadata;
    of_children = form.of_children;
    children = form.children;
    before = record { fields = suc before.fields; pairs = form.pairs };
  })

-- the field to which the offset at a place leads, before its children
unfoldable pub head_from : List ℕ → ℕ → Before → Reading Head
head_from b at before = do
  room ← unless (nat_lt before.fields 65536) (TooMany counted.Fields)
  t ← schema_part (target b at >>= λ p. table_at b p)
  head_by b t before

-- ── types ──

unfoldable pub float_at : List ℕ → Table → Reading Kind
float_at b t = choice 3 0 b t 0 >>= λ p. Ok (float_of p)

unfoldable pub date_at : List ℕ → Table → Reading Kind
date_at b t = choice 2 1 b t 0 >>= λ u. Ok (date_of u)

unfoldable pub interval_at : List ℕ → Table → Reading Kind
interval_at b t = choice 3 0 b t 0 >>= λ u. Ok (interval_of u)

unfoldable pub duration_at : List ℕ → Table → Reading Kind
duration_at b t = choice 4 1 b t 0 >>= λ u. Ok (Rattle.arrow_spec.specs.Kinds.duration (unit_of u))

-- the size of a type of fixed size
abbrev pub size_at : List ℕ → Table → Reading ℕ
size_at b t = natural_slot 0 b t 0 >>= positive

-- what a type is of these children
abbrev pub applied_at : List ℕ → Table → ℕ → Tag → Fields → Reading Kind
applied_at b t n tag fs = type_at b t n tag >>= λ k. Ok (k fs)

abbrev pub union_applied : List ℕ → Table → ℕ → Fields → Reading Kind
union_applied b t n fs = union_at b t n >>= λ k. Ok (k fs)

-- a type with exactly one child
abbrev pub one_child : {A : Type 0} → ℕ → A → Reading A
one_child n k = only_if (nat_eq n 1) InvalidDataType >>= λ one. Ok k

-- ── fields ──

-- a field as its parent sees it
abbrev pub child_by : Head → Kind → Child
child_by h k = record { name = h.name; kind = k; nullable = h.nullable; metadata = h.metadata }

-- the field to which the offset at a place leads, of so many levels, and what stands before the next one
unfoldable pub entry_at : ℕ → List ℕ → ℕ → Before → Reading (Child × Before)
entry_at levels b at before = field_at levels b at before >>= λ r. Ok (child_by r.0 r.1, r.2)

-- the fields of a vector
unfoldable pub entries_at : ℕ → List ℕ → Vector → Before → Reading (Fields × Before)
entries_at levels b v before = fields_by (λ p earlier. field_at levels b p earlier) v.first v.count before

-- a field by its head and its children
unfoldable pub entry_by : Head → Fields × Before → Reading (Child × Before)
entry_by h below = only_if (is_whole (h.of_children below.0)) InvalidDataType >>= λ whole. Ok (child_by h (h.of_children below.0), below.1)

-- whether a schema is little-endian
unfoldable pub order_part : List ℕ → Table → Reading Bool
order_part b t = schema_part (slot_unsigned w16 0 b t 0) >>= order_of >>= λ order. Ok (is_little order)

-- the fields of a schema, where so many pairs stand before them
unfoldable pub fields_part : List ℕ → Table → ℕ → Reading (Fields × Before)
fields_part b t pairs = schema_part (slot_vector 4 b t 1) >>= required (OutOfSpec MissingFields)
    >>= λ v. entries_at 64 b v (record { fields = 0; pairs = pairs })
