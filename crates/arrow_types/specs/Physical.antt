-- How a kind's columns are laid out.
use Rattle.std.specs.Prelude.{ℕ}
use Rattle.arrow_spec.specs.declared.types.IntegerType.{IntegerType}
use Rattle.arrow_spec.specs.declared.types.IntegerType.TheVariants as integer
use Rattle.arrow_spec.specs.declared.types.IntervalUnit.{IntervalUnit}
use Rattle.arrow_spec.specs.declared.types.IntervalUnit.TheVariants.{YearMonth, DayTime, MonthDayNano}
use Rattle.arrow_spec.specs.Kinds as kind
use Rattle.arrow_spec.specs.Kinds.{Kind, FloatType, half, single, double, Offsets, small, large}
use Rattle.arrow_types.specs.declared.physical.PhysicalType.{PhysicalType}
use Rattle.arrow_types.specs.declared.physical.PhysicalType.TheVariants as physical
use Rattle.arrow_types.specs.declared.physical.PrimitiveType.{PrimitiveType}
use Rattle.arrow_types.specs.declared.physical.PrimitiveType.TheVariants as primitive

abbrev pub primitive_of_integer : IntegerType → PrimitiveType
primitive_of_integer integer.Int8 = primitive.Int8
primitive_of_integer integer.Int16 = primitive.Int16
primitive_of_integer integer.Int32 = primitive.Int32
primitive_of_integer integer.Int64 = primitive.Int64
primitive_of_integer integer.Int128 = primitive.Int128
primitive_of_integer integer.UInt8 = primitive.UInt8
primitive_of_integer integer.UInt16 = primitive.UInt16
primitive_of_integer integer.UInt32 = primitive.UInt32
primitive_of_integer integer.UInt64 = primitive.UInt64

abbrev pub primitive_of_float : FloatType → PrimitiveType
primitive_of_float half = primitive.Float16
primitive_of_float single = primitive.Float32
primitive_of_float double = primitive.Float64

abbrev pub primitive_of_interval : IntervalUnit → PrimitiveType
primitive_of_interval YearMonth = primitive.Int32
primitive_of_interval DayTime = primitive.DaysMs
primitive_of_interval MonthDayNano = primitive.MonthDayNano

abbrev pub by_offsets : Offsets → PhysicalType → PhysicalType → PhysicalType
by_offsets small s l = s
by_offsets large s l = l

-- the layout, extensions looked through
abbrev pub physical_of : Kind → PhysicalType
physical_of kind.null = physical.Null
physical_of kind.boolean = physical.Boolean
physical_of (kind.integer i) = physical.Primitive (primitive_of_integer i)
physical_of (kind.float t) = physical.Primitive (primitive_of_float t)
physical_of kind.date32 = physical.Primitive primitive.Int32
physical_of kind.date64 = physical.Primitive primitive.Int64
physical_of (kind.time32 u) = physical.Primitive primitive.Int32
physical_of (kind.time64 u) = physical.Primitive primitive.Int64
physical_of (kind.timestamp u z) = physical.Primitive primitive.Int64
physical_of (kind.duration u) = physical.Primitive primitive.Int64
physical_of (kind.interval u) = physical.Primitive (primitive_of_interval u)
physical_of (kind.decimal p s) = physical.Primitive primitive.Int128
physical_of (kind.decimal256 p s) = physical.Primitive primitive.Int256
physical_of (kind.binary o) = by_offsets o physical.Binary physical.LargeBinary
physical_of (kind.utf8 o) = by_offsets o physical.Utf8 physical.LargeUtf8
physical_of kind.binary_view = physical.BinaryView
physical_of kind.utf8_view = physical.Utf8View
physical_of (kind.fixed_size_binary n) = physical.FixedSizeBinary
physical_of (kind.«list» o fs) = by_offsets o physical.List physical.LargeList
physical_of (kind.fixed_size_list n fs) = physical.FixedSizeList
physical_of (kind.struct fs) = physical.Struct
physical_of (kind.map sorted fs) = physical.Map
physical_of (kind.union m stated ids fs) = physical.Union
physical_of (kind.dictionary i ordered id k) = physical.Dictionary i
physical_of (kind.extension name metadata k) = physical_of k

-- the kind below all extensions
abbrev pub under_extensions : Kind → Kind
under_extensions (kind.extension name metadata k) = under_extensions k
under_extensions k = k

-- the bytes of a number of a primitive type; 0 for those whose numbers no array holds, floats and integers of 256 bits
abbrev pub primitive_size : PrimitiveType → ℕ
primitive_size primitive.Int8 = 1
primitive_size primitive.Int16 = 2
primitive_size primitive.Int32 = 4
primitive_size primitive.Int64 = 8
primitive_size primitive.Int128 = 16
primitive_size primitive.Int256 = 0
primitive_size primitive.UInt8 = 1
primitive_size primitive.UInt16 = 2
primitive_size primitive.UInt32 = 4
primitive_size primitive.UInt64 = 8
primitive_size primitive.Float16 = 0
primitive_size primitive.Float32 = 0
primitive_size primitive.Float64 = 0
primitive_size primitive.DaysMs = 8
primitive_size primitive.MonthDayNano = 16
