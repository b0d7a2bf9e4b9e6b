-- Arrays of byte strings and texts between offsets: what they are seen as, their cells, and why their parts are refused. (Arrow Columnar Format, "Variable-size Binary Layout".)
use Rattle.std.specs.Prelude.{ℕ, suc, ◌+◌, ◌-◌, List, [], ◌∷◌, ◌&&◌, Bool, true, false, Option, Some, None, ℤ, pos, negsuc, length, nat_le, not, slice_index_or, if◌then◌else◌, refl}
use Rattle.std.specs.Option.{option_map}
use Rattle.std.specs.Str.{is_utf8}
use Rattle.std.specs.Coded.{Coded, code_by, coded×, coded_ℕ, coded_ℤ, coded_list, coded_option, coded_bool}
use Rattle.arrow_spec.specs.Kinds.{Kind}
use Rattle.arrow_spec.specs.Cells.{Cell}
use Rattle.arrow_spec.specs.Counts.{magnitude}
use Rattle.arrow_spec.specs.Arrays.{from_on, slice}
use Rattle.arrow_spec.specs.Faults.{some_row}
use Rattle.arrow_types.specs.KindCode.{kind_code}
use Rattle.arrow_buffers.specs.Rows.{part, has_rows, is_valid, bytes_cell, masked}
use Rattle.arrow_buffers.specs.declared.error.ArrayError.{ArrayError}
use Rattle.arrow_buffers.specs.declared.error.ArrayError.TheVariants.{DataType, Length, Offsets, Utf8}

-- the kind, the offsets and the bytes as held, and the validity, where there is one
pub record Variable : Type 0 where
  pub kind : Kind
  pub offsets : List ℤ
  pub values : List ℕ
  pub validity : Option (List Bool)

-- such a record is stored as its fields
abbrev pub variable_code : Coded Variable
variable_code =
    code_by (Kind × (List ℤ × (List ℕ × Option (List Bool)))) (coded× kind_code
    (coded× (coded_list coded_ℤ) (coded× (coded_list coded_ℕ) (coded_option (coded_list coded_bool)))))
    (λ p. (p.kind, (p.offsets, (p.values, p.validity)))) (λ p. record { kind = p.0; offsets = p.1.0; values = p.1.1.0; validity = p.1.1.1 }) (λ _. refl)

-- the place that the i-th offset is
abbrev pub place_at : List ℤ → ℕ → ℕ
place_at offsets i = magnitude (slice_index_or offsets i (pos 0))

-- from a place on, no offset is negative, below the one before it, or past a limit
abbrev pub rise_from : ℕ → List ℤ → ℕ → Bool
rise_from low [] limit = true
rise_from low (pos offset ∷ offsets) limit = nat_le low offset && nat_le offset limit && rise_from offset offsets limit
rise_from low (negsuc n ∷ offsets) limit = false

-- the same, and there is an offset
abbrev pub are_offsets : List ℤ → ℕ → Bool
are_offsets [] limit = false
are_offsets (offset ∷ offsets) limit = rise_from 0 (offset ∷ offsets) limit

-- how many rows stand between offsets
abbrev pub variable_rows : List ℤ → ℕ
variable_rows offsets = length offsets - 1

-- the bytes of a row
abbrev pub row_bytes : List ℤ → List ℕ → ℕ → List ℕ
row_bytes offsets values row = slice values (place_at offsets row) (place_at offsets (suc row))

-- some row that is not null is not UTF-8
unfoldable pub has_bad_text : List ℤ → List ℕ → Option (List Bool) → Bool
has_bad_text offsets values validity = some_row (λ row. is_valid validity row && not (is_utf8 (row_bytes offsets values row))) (variable_rows offsets)

-- the cells: each row's bytes as a text or a byte string, null where the row is null
abbrev pub variable_cells : Bool → Variable → List Cell
variable_cells is_text p = masked p.validity (from_on (λ row. bytes_cell is_text (row_bytes p.offsets p.values row)) 0 (variable_rows p.offsets))

-- the rows from a place on, so many of them
abbrev pub variable_part : ℕ → ℕ → Variable → Variable
variable_part offset rows p =
    record { kind = p.kind; offsets = part offset (rows + 1) p.offsets; values = p.values; validity = option_map (part offset rows) p.validity }

-- why parts are refused: the layout is another, the validity is not of as many rows, the offsets do not rise within the bytes,
-- or a row that is not null is not UTF-8 where it is to be text
abbrev pub variable_fault : Bool → Bool → Variable → Option ArrayError
variable_fault is_text suits p =
    if not suits then Some DataType
    else (if not (has_rows p.validity (variable_rows p.offsets)) then Some Length
    else (if not (are_offsets p.offsets (length p.values)) then Some Offsets
    else (if is_text && has_bad_text p.offsets p.values p.validity then Some Utf8
    else None)))
