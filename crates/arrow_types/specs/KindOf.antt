-- The kind that an `ArrowDataType` stands for, and the field that a `Field` does.
use Rattle.std.specs.Prelude.{ℕ, List, map, length, Bool, true, false, String, string_bytes, Option, Some, None, ℤ, pos}
use Rattle.std.specs.Option.{option_map}
use Rattle.std.specs.declared.alloc.Global.{Global}
use Rattle.std.specs.declared.vec.Vec.{Vec}
use Rattle.arrow_spec.specs.declared.types.IntegerType.TheVariants as integer
use Rattle.arrow_spec.specs.Kinds as kind
use Rattle.arrow_spec.specs.Kinds.{Kind, Fields, Metadata, half, single, double, small, large}
use Rattle.arrow_spec.specs.Schema.{counted_ids}
use Rattle.arrow_types.specs.Child.{Child, fields_from, one_field}
use Rattle.arrow_types.specs.declared.data_type.ArrowDataType.{ArrowDataType, fold-ArrowDataType}
use Rattle.arrow_types.specs.declared.data_type.ArrowDataType.TheOpen.{ArrowDataType-F, Field-F, UnionType-F, ExtensionType-F}
use Rattle.arrow_types.specs.declared.data_type.Field.{Field, fold-Field}
use Rattle.arrow_types.specs.declared.data_type.UnionType.{UnionType, fold-UnionType}
use Rattle.arrow_types.specs.declared.data_type.ExtensionType.{ExtensionType, fold-ExtensionType}

abbrev pub texts_of : List (String Global × String Global) → Metadata
texts_of = map (λ p. (string_bytes p.0, string_bytes p.1))

-- whether a union's ids are stated
abbrev pub are_stated : Option (Vec ℤ Global) → Bool
are_stated None = false
are_stated (Some v) = true

-- a union's ids: 0, 1, .. where none are stated
abbrev pub ids_of : Option (Vec ℤ Global) → ℕ → List ℤ
ids_of None children = counted_ids 0 children
ids_of (Some v) children = v.items

-- one level, with what stands inside already seen
abbrev pub kind_step : ArrowDataType-F Kind Kind Child Kind → Kind
kind_step ArrowDataType-F.Null = kind.null
kind_step ArrowDataType-F.Boolean = kind.boolean
kind_step ArrowDataType-F.Int8 = kind.integer integer.Int8
kind_step ArrowDataType-F.Int16 = kind.integer integer.Int16
kind_step ArrowDataType-F.Int32 = kind.integer integer.Int32
kind_step ArrowDataType-F.Int64 = kind.integer integer.Int64
kind_step ArrowDataType-F.Int128 = kind.integer integer.Int128
kind_step ArrowDataType-F.UInt8 = kind.integer integer.UInt8
kind_step ArrowDataType-F.UInt16 = kind.integer integer.UInt16
kind_step ArrowDataType-F.UInt32 = kind.integer integer.UInt32
kind_step ArrowDataType-F.UInt64 = kind.integer integer.UInt64
kind_step ArrowDataType-F.Float16 = kind.float half
kind_step ArrowDataType-F.Float32 = kind.float single
kind_step ArrowDataType-F.Float64 = kind.float double
kind_step ArrowDataType-F.Date32 = kind.date32
kind_step ArrowDataType-F.Date64 = kind.date64
kind_step (ArrowDataType-F.Time32 u) = kind.time32 u
kind_step (ArrowDataType-F.Time64 u) = kind.time64 u
kind_step (ArrowDataType-F.Duration u) = kind.duration u
kind_step (ArrowDataType-F.Timestamp u z) = kind.timestamp u (option_map string_bytes z)
kind_step (ArrowDataType-F.Interval u) = kind.interval u
kind_step ArrowDataType-F.Binary = kind.binary small
kind_step ArrowDataType-F.LargeBinary = kind.binary large
kind_step ArrowDataType-F.Utf8 = kind.utf8 small
kind_step ArrowDataType-F.LargeUtf8 = kind.utf8 large
kind_step ArrowDataType-F.BinaryView = kind.binary_view
kind_step ArrowDataType-F.Utf8View = kind.utf8_view
kind_step (ArrowDataType-F.FixedSizeBinary n) = kind.fixed_size_binary n
kind_step (ArrowDataType-F.Decimal p s) = kind.decimal p s
kind_step (ArrowDataType-F.Decimal256 p s) = kind.decimal256 p s
kind_step (ArrowDataType-F.List f) = kind.«list» small (one_field f.value)
kind_step (ArrowDataType-F.LargeList f) = kind.«list» large (one_field f.value)
kind_step (ArrowDataType-F.FixedSizeList f n) = kind.fixed_size_list n (one_field f.value)
kind_step (ArrowDataType-F.Map f sorted) = kind.map sorted (one_field f.value)
kind_step (ArrowDataType-F.Struct fs) = kind.struct (fields_from fs.items)
kind_step (ArrowDataType-F.Union u) = u.value
kind_step (ArrowDataType-F.Dictionary i t ordered) = kind.dictionary i ordered (pos 0) t.value
kind_step (ArrowDataType-F.Extension e) = e.value

abbrev pub child_step : Field-F Kind Kind Child Kind → Child
child_step f = record { name = string_bytes f.name; kind = f.dtype; nullable = f.is_nullable; metadata = texts_of f.metadata.entries }

abbrev pub union_step : UnionType-F Kind Kind Child Kind → Kind
union_step u = kind.union u.mode (are_stated u.ids) (ids_of u.ids (length u.fields.items)) (fields_from u.fields.items)

abbrev pub extension_step : ExtensionType-F Kind Kind Child Kind → Kind
extension_step e = kind.extension (string_bytes e.name) (option_map string_bytes e.metadata) e.inner

-- a type's kind; a type states no dictionary ids, so each is 0 here
abbrev pub kind_of : ArrowDataType → Kind
kind_of = fold-ArrowDataType Kind Kind Child Kind kind_step extension_step child_step union_step

abbrev pub child_of : Field → Child
child_of = fold-Field Kind Kind Child Kind kind_step extension_step child_step union_step

abbrev pub union_kind_of : UnionType → Kind
union_kind_of = fold-UnionType Kind Kind Child Kind kind_step extension_step child_step union_step

abbrev pub extension_kind_of : ExtensionType → Kind
extension_kind_of = fold-ExtensionType Kind Kind Child Kind kind_step extension_step child_step union_step

abbrev pub fields_of : List Field → Fields
fields_of fs = fields_from (map child_of fs)
