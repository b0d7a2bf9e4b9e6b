-- What is looked for in the rows of arrays that are lent.
use Rattle.std.specs.Prelude.{ℕ, suc, ◌*◌, List, Bool, ◌&&◌, ◌||◌, Option, ℤ, nat_lt, not}
use Rattle.std.specs.Str.{is_utf8}
use Rattle.arrow_spec.specs.Flat.{Order}
use Rattle.arrow_spec.specs.Counts.{magnitude, is_negative}
use Rattle.arrow_spec.specs.Arrays.{offset_width, slice}
use Rattle.arrow_spec.specs.Faults.{some_row}
use Rattle.view_types.specs.Views.{is_set, offset_bytes, offsets_by, signed_at}

-- offset j, and the place that it is
abbrev pub offset_number : List ℕ → Bool → Order → ℕ → ℤ
offset_number bytes is_large order j = signed_at bytes (offset_bytes is_large * j) (offset_width (offsets_by is_large)) order

abbrev pub offset_place : List ℕ → Bool → Order → ℕ → ℕ
offset_place bytes is_large order j = magnitude (offset_number bytes is_large order j)

-- one of the offsets of so many rows is negative or below the one before it, or the last passes a limit
abbrev pub is_below_zero : List ℕ → Bool → Order → ℕ → Bool
is_below_zero bytes is_large order j = is_negative (offset_number bytes is_large order j)

abbrev pub has_fallen : List ℕ → Bool → Order → ℕ → Bool
has_fallen bytes is_large order j = nat_lt (offset_place bytes is_large order (suc j)) (offset_place bytes is_large order j)

abbrev pub has_bad_offsets : List ℕ → Bool → Order → ℕ → ℕ → Bool
has_bad_offsets bytes is_large order rows limit = some_row (is_below_zero bytes is_large order) (suc rows) || some_row (has_fallen bytes is_large order) rows
    || nat_lt limit (offset_place bytes is_large order rows)

-- a row that is not null is not UTF-8
abbrev pub is_no_text : List ℕ → List ℕ → Option (List ℕ) → Bool → Order → ℕ → Bool
is_no_text offsets values bits is_large order row =
    is_set bits row && not (is_utf8 (slice values (offset_place offsets is_large order row) (offset_place offsets is_large order (suc row))))
