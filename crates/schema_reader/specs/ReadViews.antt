-- What the values stand for that are read of a field.
use Rattle.std.specs.Prelude.{◌≡◌, ℕ, List, Bool, true, false, Option, Some, None, pos, string_bytes}
use Rattle.std.specs.Option.{option_map}
use Rattle.arrow_spec.specs.Kinds as kind
use Rattle.arrow_spec.specs.Kinds.{Kind, Fields, Metadata, small, large}
use Rattle.arrow_spec.specs.Schema as tags
use Rattle.arrow_spec.specs.Schema.{Tag, Before, Head, Encoding, empty_vector, with_encoding}
use Rattle.arrow_flat.specs.Read.{vector_of}
use Rattle.arrow_types.specs.Child.{Child}
use Rattle.arrow_types.specs.KindOf.{kind_of, child_of, fields_of, texts_of, are_stated, ids_of}
use Rattle.ipc_fields.specs.IpcFields.{Tree, Ids, kind_with, fields_with, tree_of}
use Rattle.ipc_fields.specs.IpcFields as trees
use Rattle.arrow_types.specs.Leaves.{is_leaf}
use Rattle.schema_reader.specs.Parts.{Form}
use Rattle.schema_reader.specs.declared.pairs.Pairs.{Pairs}
use Rattle.schema_reader.specs.declared.data_type.TypeTag.{TypeTag}
use Rattle.schema_reader.specs.declared.data_type.TypeTag.TheVariants as tag
use Rattle.schema_reader.specs.declared.data_type.Shape.{Shape}
use Rattle.schema_reader.specs.declared.data_type.Shape.TheVariants as shape
use Rattle.schema_reader.specs.declared.head.Extension.{Extension}
use Rattle.schema_reader.specs.declared.head.Encoding.{Encoding as ReadEncoding}
use Rattle.schema_reader.specs.declared.head.Counted.{Counted}
use Rattle.schema_reader.specs.declared.head.Form.{Form as ReadForm}
use Rattle.schema_reader.specs.declared.head.Head.{Head as ReadHead}
use Rattle.schema_reader.specs.declared.head.Tagged.{Tagged}
use Rattle.arrow_spec.specs.Flat.{Table}
use Rattle.schema_reader.specs.declared.field.Entry.{Entry}
use Rattle.schema_reader.specs.declared.field.Children.{Children}

abbrev pub pairs_in : Pairs → Metadata × ℕ
pairs_in p = (texts_of p.metadata.entries, p.counted)

abbrev pub tag_in : TypeTag → Tag
tag_in tag.Null = tags.null
tag_in tag.Int = tags.int
tag_in tag.FloatingPoint = tags.floating_point
tag_in tag.Binary = tags.binary
tag_in tag.Utf8 = tags.utf8
tag_in tag.Bool = tags.bool
tag_in tag.Decimal = tags.decimal
tag_in tag.Date = tags.date
tag_in tag.Time = tags.time
tag_in tag.Timestamp = tags.timestamp
tag_in tag.Interval = tags.interval
tag_in tag.List = tags.«list»
tag_in tag.Struct = tags.struct
tag_in tag.Union = tags.union
tag_in tag.FixedSizeBinary = tags.fixed_size_binary
tag_in tag.FixedSizeList = tags.fixed_size_list
tag_in tag.Map = tags.map_of
tag_in tag.Duration = tags.duration
tag_in tag.LargeBinary = tags.large_binary
tag_in tag.LargeUtf8 = tags.large_utf8
tag_in tag.LargeList = tags.large_list
tag_in tag.RunEndEncoded = tags.run_end_encoded
tag_in tag.BinaryView = tags.binary_view
tag_in tag.Utf8View = tags.utf8_view
tag_in tag.ListView = tags.list_view
tag_in tag.LargeListView = tags.large_list_view

-- the kind that a shape makes of so many children
abbrev pub shape_kind : ℕ → Shape → Fields → Kind
shape_kind n (shape.Flat t) fs = kind_of t
shape_kind n shape.List fs = kind.«list» small fs
shape_kind n shape.LargeList fs = kind.«list» large fs
shape_kind n (shape.FixedSizeList size) fs = kind.fixed_size_list size fs
shape_kind n (shape.Map sorted) fs = kind.map sorted fs
shape_kind n shape.Struct fs = kind.struct fs
shape_kind n (shape.Union mode ids) fs = kind.union mode (are_stated ids) (ids_of ids n) fs

-- a shape takes so many children
abbrev pub Takes : ℕ → Shape → Type 0
Takes n (shape.Flat t) = (n ≡ 0) × (is_leaf (kind_of t) ≡ true)
Takes n shape.List = n ≡ 1
Takes n shape.LargeList = n ≡ 1
Takes n (shape.FixedSizeList size) = n ≡ 1
Takes n (shape.Map sorted) = n ≡ 1
Takes n shape.Struct = Unit {0}
Takes n (shape.Union mode ids) = Unit {0}

abbrev pub Named : Type 0
Named = List ℕ × Option (List ℕ)

abbrev pub extension_of : Extension → Named
extension_of e = (string_bytes e.name, option_map string_bytes e.metadata)

-- a kind under an extension
abbrev pub extended : Option Named → Kind → Kind
extended None k = k
extended (Some e) k = kind.extension e.0 e.1 k

abbrev pub encoding_in : ReadEncoding → Encoding
encoding_in e = record { index = e.index; ordered = e.is_ordered; id = e.id }

-- a type has no dictionary ids: each is 0 in its kind
abbrev pub encoded : Option ReadEncoding → Kind → Kind
encoded None k = k
encoded (Some e) k = kind.dictionary e.index e.is_ordered (pos 0) k

-- what a shape asks of its children: a map's child is a struct of two
abbrev pub is_whole_shape : Shape → Fields → Bool
is_whole_shape (shape.Map sorted) fs = tags.first_is_struct_of_two fs
is_whole_shape s fs = true

abbrev pub before_in : Counted → Before
before_in c = record { fields = c.fields; pairs = c.pairs }

abbrev pub kind_by : Option ReadEncoding → Option Extension → ℕ → Shape → Fields → Kind
kind_by encoding extension n s fs = with_encoding (option_map encoding_in encoding) (extended (option_map extension_of extension) (shape_kind n s fs))

abbrev pub form_in : ReadForm → Form
form_in f = record {
  of_children = λ fs. kind_by f.encoding f.extension (empty_vector (vector_of f.children)).count f.shape fs;
  metadata = texts_of f.metadata.entries;
  children = empty_vector (vector_of f.children);
  pairs = f.pairs;
}

abbrev pub head_in : ReadHead → Head
head_in h = record {
  name = string_bytes h.name;
  nullable = h.is_nullable;
  metadata = (form_in h.form).metadata;
  of_children = (form_in h.form).of_children;
  children = (form_in h.form).children;
  before = before_in h.before;
}

abbrev pub tagged_in : Tagged → Tag × Table
tagged_in t = (tag_in t.tag, t.table.table)

-- a field with its dictionary ids
abbrev pub child_with : Child → Tree → Child
child_with c t = record { name = c.name; kind = kind_with c.kind t.id t.children; nullable = c.nullable; metadata = c.metadata }

abbrev pub entry_in : Entry → Child × Before
entry_in e = (child_with (child_of e.field) (tree_of e.ipc_field), before_in e.before)

abbrev pub children_in : Children → Fields × Before
children_in c = (fields_with (fields_of c.fields.items) (trees.ids_of c.ipc_fields.items), before_in c.before)
