-- What IPC fields stand for, and the schema that a list of keyed fields, IPC fields and metadata stand for together.
use Rattle.std.specs.Prelude.{◌≡◌, List, [], ◌∷◌, map, Bool, true, false, Option, Some, None, String, is_some, ◌&&◌, if◌then◌else◌, ℤ, pos}
use denote.Ref.{Bor}
use Rattle.std.specs.BTreeMap.{BTreeMap}
use Rattle.std.specs.declared.alloc.Global.{Global}
use Rattle.arrow_spec.specs.Flat.{little, big, or_default}
use Rattle.arrow_spec.specs.Kinds as kind
use Rattle.arrow_spec.specs.Kinds.{Kind, Fields, Metadata}
use Rattle.arrow_spec.specs.Schema.{Schema}
use Rattle.arrow_spec.specs.Readings.{is_absent}
use Rattle.arrow_types.specs.KindOf.{texts_of}
use Rattle.arrow_types.specs.Schemas.{Keyed, fields_in}
use Rattle.ipc_fields.specs.declared.ipc_field.IpcField.{IpcField, fold-IpcField}
use Rattle.ipc_fields.specs.declared.ipc_field.IpcField.TheOpen.{IpcField-F}
use Rattle.ipc_fields.specs.declared.ipc_field.IpcSchema.{IpcSchema}

-- The dictionary ids of fields in order: of the first its own, where its type is a dictionary, and those of its children; and those of the others.
pub data Ids : Type 0 where
  no_fields : Ids
  ids : Option ℤ → Ids → Ids → Ids

-- the ids of one field
pub record Tree : Type 0 where
  pub id : Option ℤ
  pub children : Ids

abbrev pub ids_from : List Tree → Ids
ids_from [] = no_fields
ids_from (t ∷ ts) = ids t.id t.children (ids_from ts)

-- one level, with what stands inside already seen
abbrev pub tree_step : IpcField-F Tree → Tree
tree_step f = record { id = f.dictionary_id; children = ids_from f.fields.items }

abbrev pub tree_of : IpcField → Tree
tree_of = fold-IpcField Tree tree_step

abbrev pub ids_of : List IpcField → Ids
ids_of fs = ids_from (map tree_of fs)

-- ── kinds and fields with the ids of their IPC fields ──

-- A dictionary's IPC field is that of its values with the id, and an extension's that of the type below it.
abbrev mutual
  pub kind_with : Kind → Option ℤ → Ids → Kind
  kind_with (kind.«list» o fs) id below = kind.«list» o (fields_with fs below)
  kind_with (kind.fixed_size_list n fs) id below = kind.fixed_size_list n (fields_with fs below)
  kind_with (kind.struct fs) id below = kind.struct (fields_with fs below)
  kind_with (kind.map sorted fs) id below = kind.map sorted (fields_with fs below)
  kind_with (kind.union mode stated types fs) id below = kind.union mode stated types (fields_with fs below)
  kind_with (kind.dictionary index ordered old k) id below = kind.dictionary index ordered (or_default (pos 0) id) (kind_with k None below)
  kind_with (kind.extension name metadata k) id below = kind.extension name metadata (kind_with k id below)
  kind_with k id below = k

  pub fields_with : Fields → Ids → Fields
  fields_with kind.none below = kind.none
  fields_with (kind.field name nullable metadata k fs) no_fields = kind.field name nullable metadata (kind_with k None no_fields) (fields_with fs no_fields)
  fields_with (kind.field name nullable metadata k fs) (ids id below others) = kind.field name nullable metadata (kind_with k id below) (fields_with fs others)

-- ── the shape of IPC fields ──

-- a dictionary, extensions looked through
abbrev pub is_encoded : Kind → Bool
is_encoded (kind.dictionary index ordered id k) = true
is_encoded (kind.extension name metadata k) = is_encoded k
is_encoded k = false

abbrev pub has_no_fields : Ids → Bool
has_no_fields no_fields = true
has_no_fields (ids id below others) = false

-- One IPC field for each field, and an id exactly at each dictionary.
abbrev mutual
  pub has_shape : Kind → Option ℤ → Ids → Bool
  has_shape (kind.«list» o fs) id below = is_absent id && have_shapes fs below
  has_shape (kind.fixed_size_list n fs) id below = is_absent id && have_shapes fs below
  has_shape (kind.struct fs) id below = is_absent id && have_shapes fs below
  has_shape (kind.map sorted fs) id below = is_absent id && have_shapes fs below
  has_shape (kind.union mode stated types fs) id below = is_absent id && have_shapes fs below
  has_shape (kind.dictionary index ordered old k) id below = is_some id && has_shape k (if is_encoded k then id else None) below
  has_shape (kind.extension name metadata k) id below = has_shape k id below
  has_shape k id below = is_absent id && has_no_fields below

  pub have_shapes : Fields → Ids → Bool
  have_shapes kind.none below = has_no_fields below
  have_shapes (kind.field name nullable metadata k fs) no_fields = false
  have_shapes (kind.field name nullable metadata k fs) (ids id below others) = has_shape k id below && have_shapes fs others

-- ── schemas ──

-- no metadata is empty metadata
abbrev pub metadata_of : Option (BTreeMap (String Global) (String Global)) → Metadata
metadata_of None = []
metadata_of (Some m) = texts_of m.entries

-- the same of metadata that is lent
abbrev pub metadata_in : Option (Bor (BTreeMap (String Global) (String Global))) → Metadata
metadata_in None = []
metadata_in (Some m) = texts_of m.now.entries

-- The schema of fields under their keys, of the ids of their IPC fields, of a byte order and of the schema's metadata.
abbrev pub schema_with : List Keyed → Ids → Bool → Metadata → Schema
schema_with s below is_little_endian metadata =
    record { order = if is_little_endian then little else big; fields = fields_with (fields_in s) below; metadata = metadata }

-- The schema that a schema, its IPC schema and optional metadata stand for.
abbrev pub schema_view : List Keyed × IpcSchema × Option (BTreeMap (String Global) (String Global)) → Schema
schema_view s = schema_with s.0 (ids_of s.1.fields.items) s.1.is_little_endian (metadata_of s.2)

-- each field stands under its own name
abbrev pub AreNamed : List Keyed → Type 0
AreNamed [] = Unit {0}
AreNamed (p ∷ ps) = (p.0 ≡ p.1.name) × AreNamed ps
