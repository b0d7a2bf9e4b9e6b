-- The types of columns. (Arrow Columnar Format, "Data Types" and "Serialization and Interprocess Communication", Schema.fbs.)
use Rattle.std.specs.Prelude.{ℕ, suc, ◌+◌, List, [], ◌∷◌, ◌++◌, Bool, true, false, Option, Some, None, ℤ, pos, negsuc, nat_eq, ◌&&◌, if◌then◌else◌}
use Rattle.std.specs.Str.{bytes_eq}
use Rattle.arrow_spec.specs.declared.types.IntegerType.{IntegerType}
use Rattle.arrow_spec.specs.declared.types.TimeUnit.{TimeUnit}
use Rattle.arrow_spec.specs.declared.types.TimeUnit.TheVariants.{Second, Millisecond, Microsecond, Nanosecond}
use Rattle.arrow_spec.specs.declared.types.IntervalUnit.{IntervalUnit}
use Rattle.arrow_spec.specs.declared.types.IntervalUnit.TheVariants.{YearMonth, DayTime, MonthDayNano}
use Rattle.arrow_spec.specs.declared.types.UnionMode.{UnionMode}
use Rattle.arrow_spec.specs.declared.types.UnionMode.TheVariants.{Dense, Sparse}
use Rattle.arrow_spec.specs.declared.types.IntegerType.TheVariants.{Int8, Int16, Int32, Int64, Int128, UInt8, UInt16, UInt32, UInt64}

-- offsets of 32 bits or of 64
pub data Offsets : Type 0 where
  small : Offsets
  large : Offsets

-- floats, whose values are never read
pub data FloatType : Type 0 where
  half : FloatType
  single : FloatType
  double : FloatType

-- pairs of a key and a value, by key
abbrev pub Metadata : Type 0
Metadata = List (List ℕ × List ℕ)

-- The type tree. A list, a fixed-size list and a map have one child, a struct and a union any number.
mutual
  pub data Kind : Type 0 where
    null : Kind
    boolean : Kind
    integer : IntegerType → Kind
    float : FloatType → Kind
    date32 : Kind
    date64 : Kind
    time32 : TimeUnit → Kind
    time64 : TimeUnit → Kind
    timestamp : TimeUnit → Option (List ℕ) → Kind
    duration : TimeUnit → Kind
    interval : IntervalUnit → Kind
    decimal : ℕ → ℕ → Kind
    decimal256 : ℕ → ℕ → Kind
    binary : Offsets → Kind
    utf8 : Offsets → Kind
    binary_view : Kind
    utf8_view : Kind
    fixed_size_binary : ℕ → Kind
    «list» : Offsets → Fields → Kind
    fixed_size_list : ℕ → Fields → Kind
    struct : Fields → Kind
    map : Bool → Fields → Kind
    -- with its ids, and whether they are stated or counted from 0
    union : UnionMode → Bool → List ℤ → Fields → Kind
    dictionary : IntegerType → Bool → ℤ → Kind → Kind
    extension : List ℕ → Option (List ℕ) → Kind → Kind

  -- fields in order: name, nullable, metadata and kind of the first, and the others
  pub data Fields : Type 0 where
    none : Fields
    field : List ℕ → Bool → Metadata → Kind → Fields → Fields

-- how many fields
abbrev pub width : Fields → ℕ
width none = 0
width (field name nullable metadata kind others) = suc (width others)

-- the same fields with no dictionary ids, whether or not a union's ids are stated
abbrev mutual
  pub bare_kind : Kind → Kind
  bare_kind («list» o fs) = «list» o (bare fs)
  bare_kind (fixed_size_list n fs) = fixed_size_list n (bare fs)
  bare_kind (struct fs) = struct (bare fs)
  bare_kind (map sorted fs) = map sorted (bare fs)
  bare_kind (union mode stated ids fs) = union mode true ids (bare fs)
  bare_kind (dictionary index ordered id k) = dictionary index ordered (pos 0) (bare_kind k)
  bare_kind (extension name metadata k) = extension name metadata (bare_kind k)
  bare_kind k = k

  pub bare : Fields → Fields
  bare none = none
  bare (field name nullable metadata k others) = field name nullable metadata (bare_kind k) (bare others)

-- how many dictionaries stand in a kind
abbrev mutual
  pub dictionary_count : Kind → ℕ
  dictionary_count («list» o fs) = dictionary_counts fs
  dictionary_count (fixed_size_list n fs) = dictionary_counts fs
  dictionary_count (struct fs) = dictionary_counts fs
  dictionary_count (map sorted fs) = dictionary_counts fs
  dictionary_count (union mode stated ids fs) = dictionary_counts fs
  dictionary_count (dictionary t ordered id k) = suc (dictionary_count k)
  dictionary_count (extension name metadata k) = dictionary_count k
  dictionary_count k = 0

  pub dictionary_counts : Fields → ℕ
  dictionary_counts none = 0
  dictionary_counts (field name nullable metadata k others) = dictionary_count k + dictionary_counts others

-- the same fields with ids that count from a number on in preorder
abbrev mutual
  pub numbered_kind : Kind → ℕ → Kind
  numbered_kind («list» o fs) id = «list» o (numbered fs id)
  numbered_kind (fixed_size_list n fs) id = fixed_size_list n (numbered fs id)
  numbered_kind (struct fs) id = struct (numbered fs id)
  numbered_kind (map sorted fs) id = map sorted (numbered fs id)
  numbered_kind (union mode stated ids fs) id = union mode stated ids (numbered fs id)
  numbered_kind (dictionary t ordered old k) id = dictionary t ordered (pos id) (numbered_kind k (suc id))
  numbered_kind (extension name metadata k) id = extension name metadata (numbered_kind k id)
  numbered_kind k id = k

  pub numbered : Fields → ℕ → Fields
  numbered none id = none
  numbered (field name nullable metadata k others) id = field name nullable metadata (numbered_kind k id) (numbered others (id + dictionary_count k))

-- ── uses of dictionaries ──

-- equal numbers
abbrev pub same : ℤ → ℤ → Bool
same (pos a) (pos b) = nat_eq a b
same (negsuc a) (negsuc b) = nat_eq a b
same (pos a) (negsuc b) = false
same (negsuc a) (pos b) = false

-- a dictionary's id, and the kind of its values
pub record Use : Type 0 where
  pub id : ℤ
  pub values : Kind

-- the uses in preorder
abbrev mutual
  pub uses_of : Kind → List Use
  uses_of («list» o fs) = uses_in fs
  uses_of (fixed_size_list n fs) = uses_in fs
  uses_of (struct fs) = uses_in fs
  uses_of (map sorted fs) = uses_in fs
  uses_of (union mode stated ids fs) = uses_in fs
  uses_of (dictionary index ordered id k) = record { id = id; values = k } ∷ uses_of k
  uses_of (extension name metadata k) = uses_of k
  uses_of k = []

  pub uses_in : Fields → List Use
  uses_in none = []
  uses_in (field name nullable metadata k others) = uses_of k ++ uses_in others

-- the kind of the values under an id
abbrev pub values_under : ℤ → List Use → Option Kind
values_under id [] = None
values_under id (u ∷ us) = if same u.id id then Some u.values else values_under id us

-- ── one kind, names, nullability and metadata aside ──

-- integers by number
abbrev pub integer_number : IntegerType → ℕ
integer_number Int8 = 0
integer_number Int16 = 1
integer_number Int32 = 2
integer_number Int64 = 3
integer_number Int128 = 4
integer_number UInt8 = 5
integer_number UInt16 = 6
integer_number UInt32 = 7
integer_number UInt64 = 8

-- one integer type
abbrev pub is_same_integer : IntegerType → IntegerType → Bool
is_same_integer s t = nat_eq (integer_number s) (integer_number t)

-- units by number
abbrev pub unit_number : TimeUnit → ℕ
unit_number Second = 0
unit_number Millisecond = 1
unit_number Microsecond = 2
unit_number Nanosecond = 3

-- one unit
abbrev pub is_same_unit : TimeUnit → TimeUnit → Bool
is_same_unit u v = nat_eq (unit_number u) (unit_number v)

-- one interval unit
abbrev pub is_same_interval : IntervalUnit → IntervalUnit → Bool
is_same_interval YearMonth YearMonth = true
is_same_interval DayTime DayTime = true
is_same_interval MonthDayNano MonthDayNano = true
is_same_interval u v = false

-- one mode
abbrev pub is_same_mode : UnionMode → UnionMode → Bool
is_same_mode Dense Dense = true
is_same_mode Sparse Sparse = true
is_same_mode m n = false

-- one float type
abbrev pub is_same_float : FloatType → FloatType → Bool
is_same_float half half = true
is_same_float single single = true
is_same_float double double = true
is_same_float s t = false

-- one width of offsets
abbrev pub is_same_offsets : Offsets → Offsets → Bool
is_same_offsets small small = true
is_same_offsets large large = true
is_same_offsets o q = false

-- one truth value
abbrev pub is_same_flag : Bool → Bool → Bool
is_same_flag true b = b
is_same_flag false true = false
is_same_flag false false = true

-- one text, or none twice
abbrev pub is_same_text : Option (List ℕ) → Option (List ℕ) → Bool
is_same_text None None = true
is_same_text (Some s) (Some t) = bytes_eq s t
is_same_text None (Some t) = false
is_same_text (Some s) None = false

-- the same ids in order
abbrev pub are_same_ids : List ℤ → List ℤ → Bool
are_same_ids [] [] = true
are_same_ids (x ∷ xs) (y ∷ ys) = same x y && are_same_ids xs ys
are_same_ids [] (y ∷ ys) = false
are_same_ids (x ∷ xs) [] = false

-- one kind
abbrev mutual
  pub is_same_kind : Kind → Kind → Bool
  is_same_kind null null = true
  is_same_kind boolean boolean = true
  is_same_kind (integer s) (integer t) = is_same_integer s t
  is_same_kind (float s) (float t) = is_same_float s t
  is_same_kind date32 date32 = true
  is_same_kind date64 date64 = true
  is_same_kind (time32 u) (time32 v) = is_same_unit u v
  is_same_kind (time64 u) (time64 v) = is_same_unit u v
  is_same_kind (timestamp u s) (timestamp v t) = is_same_unit u v && is_same_text s t
  is_same_kind (duration u) (duration v) = is_same_unit u v
  is_same_kind (interval u) (interval v) = is_same_interval u v
  is_same_kind (decimal p s) (decimal q t) = nat_eq p q && nat_eq s t
  is_same_kind (decimal256 p s) (decimal256 q t) = nat_eq p q && nat_eq s t
  is_same_kind (binary o) (binary q) = is_same_offsets o q
  is_same_kind (utf8 o) (utf8 q) = is_same_offsets o q
  is_same_kind binary_view binary_view = true
  is_same_kind utf8_view utf8_view = true
  is_same_kind (fixed_size_binary m) (fixed_size_binary n) = nat_eq m n
  is_same_kind («list» o fs) («list» q gs) = is_same_offsets o q && have_same_kinds fs gs
  is_same_kind (fixed_size_list m fs) (fixed_size_list n gs) = nat_eq m n && have_same_kinds fs gs
  is_same_kind (struct fs) (struct gs) = have_same_kinds fs gs
  is_same_kind (map b fs) (map c gs) = is_same_flag b c && have_same_kinds fs gs
  is_same_kind (union m stated ids fs) (union n too others gs) = is_same_mode m n && are_same_ids ids others && have_same_kinds fs gs
  is_same_kind (dictionary s b i k) (dictionary t c j l) = is_same_integer s t && is_same_flag b c && same i j && is_same_kind k l
  is_same_kind (extension m x k) (extension n y l) = bytes_eq m n && is_same_text x y && is_same_kind k l
  is_same_kind k l = false

  pub have_same_kinds : Fields → Fields → Bool
  have_same_kinds none none = true
  have_same_kinds (field m b x k fs) (field n c y l gs) = is_same_kind k l && have_same_kinds fs gs
  have_same_kinds none (field n c y l gs) = false
  have_same_kinds (field m b x k fs) none = false

-- an id stands with one kind of values
abbrev pub agrees_with : Option Kind → Kind → Bool
agrees_with None k = true
agrees_with (Some l) k = is_same_kind l k
