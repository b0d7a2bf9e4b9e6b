-- The text of a schema, as the command `schema` prints it. Its form is this program's own.
use Rattle.std.specs.Prelude.{ℕ, zero, suc, List, [], ◌∷◌, ◌++◌, Bool, true, false, Some, None, ℤ, Ok, nat_lt, nat_eq, ◌||◌, if◌then◌else◌, codes, decimal}
use Rattle.std.specs.List.{flat_map}
use Rattle.std.specs.Fmt.{signed_decimal}
use Rattle.hex.specs.Hex.{encode_lower}
use Rattle.arrow_spec.specs.declared.types.IntegerType.{IntegerType}
use Rattle.arrow_spec.specs.declared.types.IntegerType.TheVariants.{Int8, Int16, Int32, Int64, Int128, UInt8, UInt16, UInt32, UInt64}
use Rattle.arrow_spec.specs.declared.types.TimeUnit.{TimeUnit}
use Rattle.arrow_spec.specs.declared.types.TimeUnit.TheVariants.{Second, Millisecond, Microsecond, Nanosecond}
use Rattle.arrow_spec.specs.declared.types.IntervalUnit.{IntervalUnit}
use Rattle.arrow_spec.specs.declared.types.IntervalUnit.TheVariants.{YearMonth, DayTime, MonthDayNano}
use Rattle.arrow_spec.specs.declared.types.UnionMode.{UnionMode}
use Rattle.arrow_spec.specs.declared.types.UnionMode.TheVariants.{Dense, Sparse}
use Rattle.arrow_spec.specs.Readings.{◌>>=◌, Reading}
use Rattle.arrow_spec.specs.Flat.{Order, little, big}
use Rattle.arrow_spec.specs.Kinds.{Kind, Fields, Metadata, FloatType, Offsets, none, field, half, single, double, small, large, null, boolean, integer, float, date32, date64, time32, time64, timestamp, duration, interval, decimal256, binary, utf8, binary_view, utf8_view, fixed_size_binary, «list», fixed_size_list, struct, map, union, dictionary, extension}
use Rattle.arrow_spec.specs.Kinds as kind
use Rattle.arrow_spec.specs.Schema.{Schema}
use Rattle.arrow_spec.specs.Files.{meta_of}

-- ── texts in quotes ──

-- A byte in quotes: a quotation mark and a backslash behind a backslash, a control character as \x and two digits.
abbrev pub escaped : ℕ → List ℕ
escaped c = if nat_eq c 34 || nat_eq c 92 then 92 ∷ c ∷ [] else if nat_lt c 32 || nat_eq c 127 then 92 ∷ 120 ∷ encode_lower (c ∷ []) else c ∷ []

-- a text in double quotes
abbrev pub quoted : List ℕ → List ℕ
quoted text = 34 ∷ flat_map escaped text ++ 34 ∷ []

-- ── types ──

-- an integer type
abbrev pub integer_name : IntegerType → List ℕ
integer_name Int8 = codes "int8"
integer_name Int16 = codes "int16"
integer_name Int32 = codes "int32"
integer_name Int64 = codes "int64"
integer_name Int128 = codes "int128"
integer_name UInt8 = codes "uint8"
integer_name UInt16 = codes "uint16"
integer_name UInt32 = codes "uint32"
integer_name UInt64 = codes "uint64"

-- a float type
abbrev pub float_name : FloatType → List ℕ
float_name half = codes "float16"
float_name single = codes "float32"
float_name double = codes "float64"

-- a unit of time
abbrev pub unit_name : TimeUnit → List ℕ
unit_name Second = codes "s"
unit_name Millisecond = codes "ms"
unit_name Microsecond = codes "us"
unit_name Nanosecond = codes "ns"

-- an interval's unit
abbrev pub interval_name : IntervalUnit → List ℕ
interval_name YearMonth = codes "ym"
interval_name DayTime = codes "dt"
interval_name MonthDayNano = codes "mdn"

-- a union's mode
abbrev pub mode_name : UnionMode → List ℕ
mode_name Sparse = codes "sparse"
mode_name Dense = codes "dense"

-- ids, joined by commas
abbrev pub ids_text : List ℤ → List ℕ
ids_text [] = []
ids_text (x ∷ []) = signed_decimal x
ids_text (x ∷ y ∷ ys) = signed_decimal x ++ codes "," ++ ids_text (y ∷ ys)

-- a type; of nested types without their children, of a dictionary and an extension with the type of their values
abbrev pub type_text : Kind → List ℕ
type_text null = codes "null"
type_text boolean = codes "bool"
type_text (integer t) = integer_name t
type_text (float t) = float_name t
type_text date32 = codes "date32"
type_text date64 = codes "date64"
type_text (time32 u) = codes "time32(" ++ unit_name u ++ codes ")"
type_text (time64 u) = codes "time64(" ++ unit_name u ++ codes ")"
type_text (timestamp u None) = codes "timestamp(" ++ unit_name u ++ codes ")"
type_text (timestamp u (Some zone)) = codes "timestamp(" ++ unit_name u ++ codes "," ++ quoted zone ++ codes ")"
type_text (duration u) = codes "duration(" ++ unit_name u ++ codes ")"
type_text (interval u) = codes "interval(" ++ interval_name u ++ codes ")"
type_text (kind.decimal precision scale) = codes "decimal(" ++ decimal precision ++ codes "," ++ decimal scale ++ codes ")"
type_text (decimal256 precision scale) = codes "decimal256(" ++ decimal precision ++ codes "," ++ decimal scale ++ codes ")"
type_text (binary small) = codes "binary"
type_text (binary large) = codes "large_binary"
type_text (utf8 small) = codes "utf8"
type_text (utf8 large) = codes "large_utf8"
type_text binary_view = codes "binary_view"
type_text utf8_view = codes "utf8_view"
type_text (fixed_size_binary n) = codes "fixed_binary(" ++ decimal n ++ codes ")"
type_text («list» small fs) = codes "list"
type_text («list» large fs) = codes "large_list"
type_text (fixed_size_list n fs) = codes "fixed_list(" ++ decimal n ++ codes ")"
type_text (struct fs) = codes "struct"
type_text (map false fs) = codes "map"
type_text (map true fs) = codes "map(sorted)"
type_text (union mode stated ids fs) = codes "union(" ++ mode_name mode ++ codes ":" ++ ids_text ids ++ codes ")"
type_text (dictionary t false id k) = codes "dictionary(" ++ integer_name t ++ codes "," ++ signed_decimal id ++ codes ") " ++ type_text k
type_text (dictionary t true id k) = codes "dictionary(" ++ integer_name t ++ codes "," ++ signed_decimal id ++ codes ",ordered) " ++ type_text k
type_text (extension name None k) = codes "extension(" ++ quoted name ++ codes ") " ++ type_text k
type_text (extension name (Some metadata) k) = codes "extension(" ++ quoted name ++ codes "," ++ quoted metadata ++ codes ") " ++ type_text k

-- ── lines ──

-- two spaces a level
abbrev pub indent : ℕ → List ℕ
indent zero = []
indent (suc level) = codes "  " ++ indent level

-- a line of each pair, by key
abbrev pub pair_lines : ℕ → Metadata → List ℕ
pair_lines level [] = []
pair_lines level (x ∷ xs) = indent level ++ codes "@ " ++ quoted x.0 ++ codes " " ++ quoted x.1 ++ codes "\n" ++ pair_lines level xs

-- whether a field may have nulls
abbrev pub nullable_text : Bool → List ℕ
nullable_text true = codes " nullable"
nullable_text false = []

-- a field's own line
abbrev pub field_line : ℕ → List ℕ → Bool → Kind → List ℕ
field_line level name nullable k = indent level ++ quoted name ++ codes " " ++ type_text k ++ nullable_text nullable ++ codes "\n"

-- the lines of fields in preorder: each with its pairs and its children one level below it; a dictionary and an extension add no level
abbrev mutual
  pub child_lines : ℕ → Kind → List ℕ
  child_lines level («list» o fs) = field_lines level fs
  child_lines level (fixed_size_list n fs) = field_lines level fs
  child_lines level (struct fs) = field_lines level fs
  child_lines level (map sorted fs) = field_lines level fs
  child_lines level (union mode stated ids fs) = field_lines level fs
  child_lines level (dictionary t ordered id k) = child_lines level k
  child_lines level (extension name metadata k) = child_lines level k
  child_lines level k = []

  pub field_lines : ℕ → Fields → List ℕ
  field_lines level none = []
  field_lines level (field name nullable metadata k others) =
      field_line level name nullable k ++ pair_lines (suc level) metadata ++ child_lines (suc level) k ++ field_lines level others

-- the line of a byte order
abbrev pub order_line : Order → List ℕ
order_line little = codes "little\n"
order_line big = codes "big\n"

-- the byte order, the schema's pairs, and the fields
unfoldable pub schema_text : Schema → List ℕ
schema_text s = order_line s.order ++ pair_lines 0 s.metadata ++ field_lines 0 s.fields

-- what is printed of a file: the text of its schema, or the refusals at the first place where one holds, the schema's or one before it
unfoldable pub schema_text_of : List ℕ → Reading (List ℕ)
schema_text_of b = meta_of b >>= λ meta. Ok (schema_text meta.schema)
