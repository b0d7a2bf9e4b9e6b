-- Which layouts the parts of an array have. (Arrow Columnar Format, "Physical Memory Layout".)
use Rattle.std.specs.Prelude.{ℕ, Bool, true, false, ◌&&◌, ◌||◌, not, nat_eq}
use Rattle.arrow_spec.specs.declared.types.IntegerType.TheVariants as integer
use Rattle.arrow_spec.specs.declared.types.IntervalUnit.TheVariants as interval
use Rattle.arrow_spec.specs.Kinds as kind
use Rattle.arrow_spec.specs.Kinds.{Kind, half, single, double, fixed_size_binary, extension}
use Rattle.arrow_types.specs.declared.physical.PhysicalType.{PhysicalType}
use Rattle.arrow_types.specs.declared.physical.PhysicalType.TheVariants.{Null, Boolean, Primitive, Binary, LargeBinary, Utf8, LargeUtf8, BinaryView, Utf8View}
use Rattle.arrow_types.specs.declared.physical.PrimitiveType.{PrimitiveType}
use Rattle.arrow_types.specs.declared.physical.PrimitiveType.TheVariants as primitive

-- primitive types by number
abbrev pub primitive_number : PrimitiveType → ℕ
primitive_number primitive.Int8 = 0
primitive_number primitive.Int16 = 1
primitive_number primitive.Int32 = 2
primitive_number primitive.Int64 = 3
primitive_number primitive.Int128 = 4
primitive_number primitive.Int256 = 5
primitive_number primitive.UInt8 = 6
primitive_number primitive.UInt16 = 7
primitive_number primitive.UInt32 = 8
primitive_number primitive.UInt64 = 9
primitive_number primitive.Float16 = 10
primitive_number primitive.Float32 = 11
primitive_number primitive.Float64 = 12
primitive_number primitive.DaysMs = 13
primitive_number primitive.MonthDayNano = 14

-- the layout is that of numbers of this primitive type
abbrev pub is_primitive : PrimitiveType → PhysicalType → Bool
is_primitive p (Primitive q) = nat_eq (primitive_number q) (primitive_number p)
is_primitive p layout = false

-- the kind of numbers of a primitive type that mean nothing else
abbrev pub number_kind : PrimitiveType → Kind
number_kind primitive.Int8 = kind.integer integer.Int8
number_kind primitive.Int16 = kind.integer integer.Int16
number_kind primitive.Int32 = kind.integer integer.Int32
number_kind primitive.Int64 = kind.integer integer.Int64
number_kind primitive.Int128 = kind.integer integer.Int128
number_kind primitive.Int256 = kind.decimal256 76 0
number_kind primitive.UInt8 = kind.integer integer.UInt8
number_kind primitive.UInt16 = kind.integer integer.UInt16
number_kind primitive.UInt32 = kind.integer integer.UInt32
number_kind primitive.UInt64 = kind.integer integer.UInt64
number_kind primitive.Float16 = kind.float half
number_kind primitive.Float32 = kind.float single
number_kind primitive.Float64 = kind.float double
number_kind primitive.DaysMs = kind.interval interval.DayTime
number_kind primitive.MonthDayNano = kind.interval interval.MonthDayNano

-- the layout is that of bits
abbrev pub is_boolean : PhysicalType → Bool
is_boolean Boolean = true
is_boolean layout = false

-- the layout is that of nulls alone
abbrev pub is_null : PhysicalType → Bool
is_null Null = true
is_null layout = false

-- the layout is that of texts, or of byte strings, between offsets of 64 bits, or of 32
abbrev pub is_variable : Bool → Bool → PhysicalType → Bool
is_variable is_text is_large Binary = not is_text && not is_large
is_variable is_text is_large LargeBinary = not is_text && is_large
is_variable is_text is_large Utf8 = is_text && not is_large
is_variable is_text is_large LargeUtf8 = is_text && is_large
is_variable is_text is_large layout = false

-- the same, between offsets of any width
abbrev pub is_variable_any : Bool → PhysicalType → Bool
is_variable_any is_text layout = is_variable is_text false layout || is_variable is_text true layout

-- the layout is that of views of texts, or of byte strings
abbrev pub is_view : Bool → PhysicalType → Bool
is_view is_text BinaryView = not is_text
is_view is_text Utf8View = is_text
is_view is_text layout = false

-- the size of byte strings of one size, extensions looked through; 0 for other kinds
abbrev pub binary_size : Kind → ℕ
binary_size (fixed_size_binary size) = size
binary_size (extension name metadata k) = binary_size k
binary_size k = 0
