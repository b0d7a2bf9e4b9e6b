-- A table as text: a row of its names, and a row of each of its rows. The form of a cell is this program's own; that of a row is the crate's `csv`.
use Rattle.std.specs.Prelude.{ℕ, zero, suc, ◌/◌, ◌+◌, ◌%◌, List, [], ◌∷◌, ◌++◌, Bool, true, false, not, ◌||◌, Option, Ok, ℤ, pos, negsuc, nat_le, if◌then◌else◌, codes, decimal, slice_get}
use Rattle.std.specs.Fmt.{signed_decimal}
use Rattle.hex.specs.Hex.{encode_lower}
use Rattle.csv.specs.Writing.{default_writer, row_text}
use Rattle.arrow_spec.specs.declared.error.IpcError.TheVariants.{Unsupported}
use Rattle.arrow_spec.specs.declared.error.Feature.TheVariants as features
use Rattle.arrow_spec.specs.declared.types.IntervalUnit.TheVariants.{DayTime}
use Rattle.arrow_spec.specs.Readings.{◌>>=◌, Reading, free_of, unless}
use Rattle.arrow_spec.specs.Kinds as kind
use Rattle.arrow_spec.specs.Kinds.{Kind, Fields, none, field, interval, dictionary, extension, «list», fixed_size_list, struct, union, width}
use Rattle.arrow_spec.specs.Cells as cells
use Rattle.arrow_spec.specs.Cells.{Cell}
use Rattle.arrow_spec.specs.Arrays.{cell_or_null}
use Rattle.arrow_spec.specs.Features.{chosen_floats}
use Rattle.arrow_spec.specs.Files.{ArrowTable, Request, TableBatch, columns_right, custom_of, fields_as_asked, file_reading, meta_of, to_read}

-- ── numbers ──

-- a number without its last digits, and these digits
abbrev pub without_digits : ℕ → ℕ → ℕ
without_digits zero n = n
without_digits (suc k) n = without_digits k (n / 10)

abbrev pub last_digits : ℕ → ℕ → List ℕ
last_digits zero n = []
last_digits (suc k) n = last_digits k (n / 10) ++ (48 + n % 10) ∷ []

-- a number with s digits behind a point
abbrev pub with_point : ℕ → ℕ → List ℕ
with_point s n = decimal (without_digits s n) ++ 46 ∷ last_digits s n

-- the same with its sign
abbrev pub signed_with_point : ℕ → ℤ → List ℕ
signed_with_point s (pos n) = with_point s n
signed_with_point s (negsuc n) = 45 ∷ with_point s (suc n)

-- a decimal of a scale: at most 38 digits stand behind its point
abbrev pub scaled : ℕ → ℤ → List ℕ
scaled zero x = signed_decimal x
scaled (suc s) x = if nat_le (suc s) 38 then signed_with_point (suc s) x else signed_decimal x ++ codes "E-" ++ decimal (suc s)

-- ── cells and rows ──

-- the scale of a kind's numbers, of a dictionary's that of its values'; 0 where they are whole, as dates, times, timestamps and durations are
abbrev pub scale_in : Kind → ℕ
scale_in (kind.decimal precision scale) = scale
scale_in (dictionary t ordered id k) = scale_in k
scale_in (extension name metadata k) = scale_in k
scale_in k = 0

-- whether a kind's intervals are days and milliseconds
abbrev pub is_day_time : Kind → Bool
is_day_time (interval DayTime) = true
is_day_time (dictionary t ordered id k) = is_day_time k
is_day_time (extension name metadata k) = is_day_time k
is_day_time k = false

-- days and milliseconds, or months, days and nanoseconds
abbrev pub interval_text : Bool → ℤ → ℤ → ℤ → List ℕ
interval_text true a b c = signed_decimal a ++ 32 ∷ signed_decimal b
interval_text false a b c = signed_decimal a ++ 32 ∷ signed_decimal b ++ 32 ∷ signed_decimal c

-- a cell of a kind; a dictionary's is that of its value. Nested cells have no text, and stand in no table that is printed.
abbrev pub cell_text : Kind → Cell → List ℕ
cell_text k (cells.bool true) = codes "true"
cell_text k (cells.bool false) = codes "false"
cell_text k (cells.number x) = scaled (scale_in k) x
cell_text k (cells.interval a b c) = interval_text (is_day_time k) a b c
cell_text k (cells.text t) = t
cell_text k (cells.bytes b) = encode_lower b
cell_text k x = []

-- the names of fields
abbrev pub names_in : Fields → List (List ℕ)
names_in none = []
names_in (field name nullable metadata k others) = name ∷ names_in others

-- the texts of a row, of each column one
abbrev pub row_cells : Fields → List (List Cell) → ℕ → List (List ℕ)
row_cells none columns i = []
row_cells (field name nullable metadata k others) [] i = []
row_cells (field name nullable metadata k others) (x ∷ xs) i = cell_text k (cell_or_null (slice_get x i)) ∷ row_cells others xs i

-- n rows from one on
abbrev pub rows_text : Fields → List (List Cell) → ℕ → ℕ → List ℕ
rows_text fs columns i zero = []
rows_text fs columns i (suc n) = row_text default_writer (row_cells fs columns i) ++ rows_text fs columns (suc i) n

-- ── tables ──

-- where there is no column there is no text
abbrev pub batch_text : Fields → TableBatch → List ℕ
batch_text none x = []
batch_text (field name nullable metadata k others) x = rows_text (field name nullable metadata k others) x.columns 0 x.rows

abbrev pub header_text : Fields → List ℕ
header_text none = []
header_text (field name nullable metadata k others) = row_text default_writer (names_in (field name nullable metadata k others))

abbrev pub batches_text : Fields → List TableBatch → List ℕ
batches_text fs [] = []
batches_text fs (x ∷ xs) = batch_text fs x ++ batches_text fs xs

unfoldable pub table_text : ArrowTable → List ℕ
table_text t = header_text t.fields ++ batches_text t.fields t.batches

-- ── which files ──

-- whether a kind's cells are no text; of a dictionary its values' kind counts
abbrev pub is_nested : Kind → Bool
is_nested («list» o fs) = true
is_nested (fixed_size_list n fs) = true
is_nested (struct fs) = true
is_nested (kind.map sorted fs) = true
is_nested (union mode stated ids fs) = true
is_nested (dictionary t ordered id k) = is_nested k
is_nested (extension name metadata k) = is_nested k
is_nested k = false

-- whether one of several fields is of such a kind
abbrev pub are_nested : Fields → Bool
are_nested none = false
are_nested (field name nullable metadata k others) = is_nested k || are_nested others

-- what is looked at before the header is put: the metadata, the columns, and the features of the chosen kinds, nested kinds behind floats
unfoldable pub printable : List ℕ → Request → Reading (Unit {0})
printable b r = do
  meta ← meta_of b
  custom ← custom_of b
  columns ← columns_right r.columns (width meta.schema.fields)
  floats ← free_of (chosen_floats r.columns meta.schema.fields 0)
  unless (not (are_nested (fields_as_asked r.columns meta.schema.fields))) (Unsupported features.Nested)

-- what is printed of a file under a request, of all its blocks or the first j
unfoldable pub printed : List ℕ → Request → Option ℕ → Reading ArrowTable
printed b r j = printable b r >>= λ ok. file_reading to_read b r j

-- its text
abbrev pub text_reading : List ℕ → Request → Option ℕ → Reading (List ℕ)
text_reading b r j = printed b r j >>= λ t. Ok (table_text t)
