-- The text of the worked file's schema, of each form of a type, and of pairs, quotes and nested fields; and the words that ask for it.
use Rattle.std.proofs.Common.{◌≡◌, [], ◌∷◌, ◌++◌, Some, None, Ok, Err, refl, true, false, pos, negsuc}
use Rattle.std.specs.Prelude.{codes}
use Rattle.std.specs.Fmt.{digits}
use Rattle.hex.specs.Hex.{encode_with}
use Rattle.laws_worked.proofs.Vectors.{int32_file}
use Rattle.laws_worked.proofs.WorkedFiles.{three_columns_file, inner_first_file}
use Rattle.laws_worked.proofs.MoreFiles.{big_endian_file}
use Rattle.laws_worked.proofs.Damage.{int32_file_with}
use Rattle.laws_worked.proofs.Int32Table.{computed}
use Rattle.arrow_spec.specs.declared.types.IntegerType.TheVariants.{Int8, Int16, Int32, Int64, Int128, UInt8, UInt16, UInt32, UInt64}
use Rattle.arrow_spec.specs.declared.types.TimeUnit.TheVariants.{Second, Millisecond, Microsecond, Nanosecond}
use Rattle.arrow_spec.specs.declared.types.IntervalUnit.TheVariants.{YearMonth, DayTime, MonthDayNano}
use Rattle.arrow_spec.specs.declared.types.UnionMode.TheVariants.{Dense, Sparse}
use Rattle.arrow_spec.specs.declared.error.FlatError.TheVariants.{Number}
use Rattle.arrow_spec.specs.declared.error.IpcError.TheVariants.{OutOfSpec}
use Rattle.arrow_spec.specs.declared.error.OutOfSpecKind.TheVariants.{InvalidFlatbufferSchema, UnexpectedNegativeInteger}
use Rattle.arrow_spec.specs.Flat.{little, big}
use Rattle.arrow_spec.specs.Kinds as kind
use Rattle.arrow_spec.specs.Kinds.{Kind, Fields, none, field, small, large}
use Rattle.arrow_spec.specs.SchemaText.{quoted, type_text, schema_text, schema_text_of}

-- ── worked files ──

pub int32_file-text : schema_text_of int32_file ≡ Ok (codes "little\n\"a\" int32 nullable\n")
unfolding computed schema_text schema_text_of
int32_file-text = refl

pub big_endian-text : schema_text_of big_endian_file ≡ Ok (codes "big\n\"a\" int32 nullable\n")
unfolding computed schema_text schema_text_of
big_endian-text = refl

pub three_columns-text : schema_text_of three_columns_file ≡ Ok (codes "little\n\"a\" int32\n\"b\" utf8\n\"c\" int64\n")
unfolding computed schema_text schema_text_of
three_columns-text = refl

pub dictionaries-text : schema_text_of inner_first_file ≡ Ok (codes "little\n\"s\" dictionary(int32,0) struct nullable\n  \"d\" dictionary(int8,1) utf8 nullable\n")
unfolding computed schema_text schema_text_of digits
dictionaries-text = refl

-- blocks are looked at in the footer alone
pub message_past_block-text : schema_text_of (int32_file_with 592 (151 ∷ 0 ∷ 0 ∷ 0 ∷ [])) ≡ Ok (codes "little\n\"a\" int32 nullable\n")
unfolding computed schema_text schema_text_of
message_past_block-text = refl

pub no_such_type : schema_text_of (int32_file_with 521 (99 ∷ [])) ≡ Err (OutOfSpec (InvalidFlatbufferSchema Number) ∷ [])
unfolding computed schema_text schema_text_of
no_such_type = refl

pub negative_block : schema_text_of (int32_file_with 584 (255 ∷ 255 ∷ 255 ∷ 255 ∷ 255 ∷ 255 ∷ 255 ∷ 255 ∷ [])) ≡ Err (OutOfSpec UnexpectedNegativeInteger ∷ [])
unfolding computed schema_text schema_text_of
negative_block = refl

-- ── quotes ──

pub quotes : quoted (codes "a \"b\" \\ c") ≡ codes "\"a \\\"b\\\" \\\\ c\""
quotes = refl

pub controls : quoted (10 ∷ 31 ∷ 32 ∷ 126 ∷ 127 ∷ 195 ∷ 169 ∷ []) ≡ codes "\"\\x0a\\x1f ~\\x7f" ++ 195 ∷ 169 ∷ 34 ∷ []
unfolding encode_with
controls = refl

-- ── types ──

abbrev one : Kind → Fields
one k = field (codes "x") false [] k none

abbrev number : Fields
number = one (kind.integer Int32)

pub nulls : type_text kind.null ≡ codes "null"
nulls = refl

pub booleans : type_text kind.boolean ≡ codes "bool"
booleans = refl

pub int8 : type_text (kind.integer Int8) ≡ codes "int8"
int8 = refl

pub int16 : type_text (kind.integer Int16) ≡ codes "int16"
int16 = refl

pub int32 : type_text (kind.integer Int32) ≡ codes "int32"
int32 = refl

pub int64 : type_text (kind.integer Int64) ≡ codes "int64"
int64 = refl

pub int128 : type_text (kind.integer Int128) ≡ codes "int128"
int128 = refl

pub uint8 : type_text (kind.integer UInt8) ≡ codes "uint8"
uint8 = refl

pub uint16 : type_text (kind.integer UInt16) ≡ codes "uint16"
uint16 = refl

pub uint32 : type_text (kind.integer UInt32) ≡ codes "uint32"
uint32 = refl

pub uint64 : type_text (kind.integer UInt64) ≡ codes "uint64"
uint64 = refl

pub float16 : type_text (kind.float kind.half) ≡ codes "float16"
float16 = refl

pub float32 : type_text (kind.float kind.single) ≡ codes "float32"
float32 = refl

pub float64 : type_text (kind.float kind.double) ≡ codes "float64"
float64 = refl

pub decimal128 : type_text (kind.decimal 38 10) ≡ codes "decimal(38,10)"
unfolding digits
decimal128 = refl

pub decimal256 : type_text (kind.decimal256 76 0) ≡ codes "decimal256(76,0)"
unfolding digits
decimal256 = refl

pub small_binary : type_text (kind.binary small) ≡ codes "binary"
small_binary = refl

pub large_binary : type_text (kind.binary large) ≡ codes "large_binary"
large_binary = refl

pub small_utf8 : type_text (kind.utf8 small) ≡ codes "utf8"
small_utf8 = refl

pub large_utf8 : type_text (kind.utf8 large) ≡ codes "large_utf8"
large_utf8 = refl

pub binary_view : type_text kind.binary_view ≡ codes "binary_view"
binary_view = refl

pub utf8_view : type_text kind.utf8_view ≡ codes "utf8_view"
utf8_view = refl

pub fixed_binary : type_text (kind.fixed_size_binary 16) ≡ codes "fixed_binary(16)"
unfolding digits
fixed_binary = refl

pub date32 : type_text kind.date32 ≡ codes "date32"
date32 = refl

pub date64 : type_text kind.date64 ≡ codes "date64"
date64 = refl

pub seconds : type_text (kind.time32 Second) ≡ codes "time32(s)"
seconds = refl

pub milliseconds : type_text (kind.time32 Millisecond) ≡ codes "time32(ms)"
milliseconds = refl

pub microseconds : type_text (kind.time64 Microsecond) ≡ codes "time64(us)"
microseconds = refl

pub nanoseconds : type_text (kind.time64 Nanosecond) ≡ codes "time64(ns)"
nanoseconds = refl

pub no_zone : type_text (kind.timestamp Millisecond None) ≡ codes "timestamp(ms)"
no_zone = refl

pub zone : type_text (kind.timestamp Nanosecond (Some (codes "Europe/Zurich"))) ≡ codes "timestamp(ns,\"Europe/Zurich\")"
zone = refl

pub durations : type_text (kind.duration Second) ≡ codes "duration(s)"
durations = refl

pub months : type_text (kind.interval YearMonth) ≡ codes "interval(ym)"
months = refl

pub days : type_text (kind.interval DayTime) ≡ codes "interval(dt)"
days = refl

pub months_and_days : type_text (kind.interval MonthDayNano) ≡ codes "interval(mdn)"
months_and_days = refl

pub small_list : type_text (kind.«list» small number) ≡ codes "list"
small_list = refl

pub large_list : type_text (kind.«list» large number) ≡ codes "large_list"
large_list = refl

pub fixed_list : type_text (kind.fixed_size_list 3 number) ≡ codes "fixed_list(3)"
unfolding digits
fixed_list = refl

pub structs : type_text (kind.struct number) ≡ codes "struct"
structs = refl

pub maps : type_text (kind.map false number) ≡ codes "map"
maps = refl

pub sorted_maps : type_text (kind.map true number) ≡ codes "map(sorted)"
sorted_maps = refl

pub sparse_unions : type_text (kind.union Sparse true (pos 5 ∷ pos 7 ∷ []) number) ≡ codes "union(sparse:5,7)"
unfolding digits
sparse_unions = refl

pub dense_unions : type_text (kind.union Dense false (pos 0 ∷ []) number) ≡ codes "union(dense:0)"
unfolding digits
dense_unions = refl

pub dictionaries : type_text (kind.dictionary Int16 false (pos 4) (kind.utf8 small)) ≡ codes "dictionary(int16,4) utf8"
unfolding digits
dictionaries = refl

pub ordered_dictionaries : type_text (kind.dictionary UInt8 true (negsuc 0) (kind.«list» small number)) ≡ codes "dictionary(uint8,-1,ordered) list"
unfolding digits
ordered_dictionaries = refl

pub extensions : type_text (kind.extension (codes "uuid") None (kind.fixed_size_binary 16)) ≡ codes "extension(\"uuid\") fixed_binary(16)"
unfolding digits
extensions = refl

pub extensions_with_metadata : type_text (kind.dictionary Int8 false (pos 0) (kind.extension (codes "e") (Some (codes "m\"")) (kind.utf8 large))) ≡ codes "dictionary(int8,0) extension(\"e\",\"m\\\"\") large_utf8"
unfolding digits
extensions_with_metadata = refl

-- ── lines ──

-- a list of structs in a dictionary, with pairs of the schema, of a field and of a child; and a field behind it
abbrev inner : Fields
inner = field (codes "item") true ((codes "p", codes "q") ∷ []) (kind.struct (field (codes "s") false [] (kind.utf8 small) none)) none

pub nested : schema_text (record {
  order = big;
  fields = field (codes "d") true ((codes "k", codes "v") ∷ (codes "l", []) ∷ []) (kind.dictionary Int32 false (pos 1) (kind.«list» small inner)) (field (codes "b") false [] kind.boolean none);
  metadata = (codes "A", codes "1") ∷ (codes "B", codes "2") ∷ [];
})
    ≡ codes "big\n@ \"A\" \"1\"\n@ \"B\" \"2\"\n\"d\" dictionary(int32,1) list nullable\n  @ \"k\" \"v\"\n  @ \"l\" \"\"\n  \"item\" struct nullable\n    @ \"p\" \"q\"\n    \"s\" utf8\n\"b\" bool\n"
unfolding schema_text digits
nested = refl

pub no_fields : schema_text (record { order = little; fields = none; metadata = [] }) ≡ codes "little\n"
unfolding schema_text
no_fields = refl
