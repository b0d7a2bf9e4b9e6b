-- Texts of worked cells and of a worked file.
use Rattle.std.proofs.Common.{◌≡◌, [], ◌∷◌, Some, None, Ok, refl, true, false, pos, negsuc}
use Rattle.std.specs.Prelude.{codes}
use Rattle.std.specs.Fmt.{digits}
use Rattle.hex.specs.Hex.{encode_with}
use Rattle.csv.specs.Writing.{escaped, fields_text, is_blank, row_text, default_writer}
use Rattle.arrow_spec.specs.declared.types.IntervalUnit.TheVariants.{DayTime, MonthDayNano}
use Rattle.arrow_spec.specs.declared.types.IntegerType.TheVariants.{Int8}
use Rattle.arrow_spec.specs.Kinds as kind
use Rattle.arrow_spec.specs.Kinds.{Fields, none, field, small}
use Rattle.arrow_spec.specs.Cells as cells
use Rattle.arrow_spec.specs.Files.{«all»}
use Rattle.csv_texts.proofs.Computed.{computed}
use Rattle.csv_texts.proofs.Vectors.{three_columns_file}
use Rattle.csv_texts.specs.Texts.{is_nested, scaled, cell_text, table_text, printable, printed, text_reading, batch_text, header_text}

pub minus_five : scaled 2 (negsuc 4) ≡ codes "-0.05"
unfolding digits
minus_five = refl

pub whole : scaled 0 (negsuc 4) ≡ codes "-5"
unfolding digits
whole = refl

pub three_digits : scaled 3 (pos 1234567) ≡ codes "1234.567"
unfolding digits
three_digits = refl

pub large_scale : scaled 39 (pos 12) ≡ codes "12E-39"
unfolding digits
large_scale = refl

pub day_time : cell_text (kind.interval DayTime) (cells.interval (pos 3) (negsuc 6) (pos 0)) ≡ codes "3 -7"
unfolding digits
day_time = refl

pub months_days : cell_text (kind.interval MonthDayNano) (cells.interval (pos 1) (pos 2) (negsuc 2)) ≡ codes "1 2 -3"
unfolding digits
months_days = refl

pub dictionary_of_decimal : cell_text (kind.dictionary Int8 false (pos 0) (kind.decimal 5 2)) (cells.number (pos 7)) ≡ codes "0.07"
unfolding digits
dictionary_of_decimal = refl

pub hex_bytes : cell_text (kind.binary small) (cells.bytes (222 ∷ 173 ∷ [])) ≡ codes "dead"
unfolding encode_with
hex_bytes = refl

pub null_cell : cell_text (kind.utf8 small) cells.null ≡ []
null_cell = refl

-- a decimal beside a text
abbrev two : Fields
two = field (codes "d") true [] (kind.decimal 5 2) (field (codes "t") true [] (kind.utf8 small) none)

pub two_columns : batch_text two (record { rows = 1; columns = (cells.number (negsuc 4) ∷ []) ∷ (cells.text (codes "q") ∷ []) ∷ []; custom = [] }) ≡ codes "-0.05,q\n"
unfolding digits escaped fields_text is_blank
two_columns = refl

-- quotes, and one null cell of one column
pub quoted_text : row_text default_writer (codes "a,b" ∷ codes "say \"x\"" ∷ codes "" ∷ []) ≡ codes "\"a,b\",\"say \"\"x\"\"\",\n"
unfolding escaped fields_text is_blank
quoted_text = refl

pub one_null : row_text default_writer ([] ∷ []) ≡ codes "\"\"\n"
unfolding escaped fields_text is_blank
one_null = refl

pub three_columns : text_reading three_columns_file «all» None ≡ Ok (codes "a,b,c\n1,x,10\n2,yz,20\n")
unfolding computed digits escaped fields_text is_blank printable printed table_text
three_columns = refl

pub two_of_them : text_reading three_columns_file (record { columns = Some (2 ∷ 0 ∷ []); limit = Some 1 }) None ≡ Ok (codes "c,a\n10,1\n")
unfolding computed digits escaped fields_text is_blank printable printed table_text
two_of_them = refl

pub no_columns : text_reading three_columns_file (record { columns = Some []; limit = None }) None ≡ Ok []
unfolding computed printable printed table_text
no_columns = refl

-- least and greatest numbers
pub least_of_128_bits : scaled 38 (negsuc 170141183460469231731687303715884105727) ≡ codes "-1.70141183460469231731687303715884105728"
unfolding digits
least_of_128_bits = refl

pub least_large_scale : scaled 39 (negsuc 170141183460469231731687303715884105727) ≡ codes "-170141183460469231731687303715884105728E-39"
unfolding digits
least_large_scale = refl

-- an extension over a date, a column of no name, a name with a line feed
pub extension_of_date : cell_text (kind.extension (codes "day") None kind.date32) (cells.number (negsuc 0)) ≡ codes "-1"
unfolding digits
extension_of_date = refl

pub names : header_text (field (codes "a\"b") true [] kind.date32 (field [] true [] kind.null (field (codes "x,y\n") true [] kind.boolean none))) ≡ codes "\"a\"\"b\",,\"x,y\n\"\n"
unfolding escaped fields_text is_blank
names = refl

pub no_name : header_text (field [] true [] kind.date32 none) ≡ codes "\"\"\n"
unfolding escaped fields_text is_blank
no_name = refl

-- a dictionary of lists is nested
pub nested_values : is_nested (kind.dictionary Int8 false (pos 0) (kind.«list» small none)) ≡ true
nested_values = refl
