-- Arrays of views of byte strings and texts: what they are seen as, their cells, and why their parts are refused. (Arrow Columnar Format, "Variable-size Binary View Layout".)
use Rattle.std.specs.Prelude.{◌≡◌, ℕ, ◌+◌, ◌*◌, ◌/◌, ◌%◌, ◌<◌, true, List, [], ◌&&◌, Bool, Option, Some, None, length, take, drop, nat_le, nat_lt, nat_eq, not, slice_index_or, if◌then◌else◌, refl}
use Rattle.std.specs.Option.{option_map}
use Rattle.std.specs.Str.{is_utf8, bytes_eq}
use Rattle.std.specs.Coded.{Coded, code_by, coded×, coded_ℕ, coded_list, coded_option, coded_bool}
use Rattle.arrow_spec.specs.Kinds.{Kind}
use Rattle.arrow_spec.specs.Cells.{Cell}
use Rattle.arrow_spec.specs.Arrays.{from_on, u32_of}
use Rattle.arrow_spec.specs.Faults.{some_row, all_zero}
use Rattle.arrow_types.specs.KindCode.{kind_code}
use Rattle.arrow_buffers.specs.Rows.{part, has_rows, is_valid, bytes_cell, masked}
use Rattle.arrow_buffers.specs.Leaf.{fixed_row}
use Rattle.arrow_buffers.specs.declared.error.ArrayError.{ArrayError}
use Rattle.arrow_buffers.specs.declared.error.ArrayError.TheVariants.{DataType, Length, Utf8, View}

-- the kind, the views of 16 bytes a row and the buffers as held, and the validity, where there is one
pub record Views : Type 0 where
  pub kind : Kind
  pub views : List ℕ
  pub buffers : List (List ℕ)
  pub validity : Option (List Bool)

-- such a record is stored as its fields
abbrev pub views_code : Coded Views
views_code =
    code_by (Kind × (List ℕ × (List (List ℕ) × Option (List Bool)))) (coded× kind_code
    (coded× (coded_list coded_ℕ) (coded× (coded_list (coded_list coded_ℕ)) (coded_option (coded_list coded_bool)))))
    (λ p. (p.kind, (p.views, (p.buffers, p.validity)))) (λ p. record { kind = p.0; views = p.1.0; buffers = p.1.1.0; validity = p.1.1.1 }) (λ _. refl)

-- how many rows the views are
abbrev pub view_rows : List ℕ → ℕ
view_rows views = length views / 16

-- the 16 bytes of a row's view
abbrev pub view_at : List ℕ → ℕ → List ℕ
view_at views row = fixed_row 16 views row

-- a buffer by its number, empty where there is none
abbrev pub buffer_at : List (List ℕ) → ℕ → List ℕ
buffer_at buffers number = slice_index_or buffers number []

-- the bytes that stand in a view itself
abbrev pub short_bytes : List ℕ → List ℕ
short_bytes view = take (u32_of view 0) (drop 4 view)

-- the bytes of the buffer that a view names, at the place that it names
abbrev pub long_bytes : List (List ℕ) → List ℕ → List ℕ
long_bytes buffers view = take (u32_of view 0) (drop (u32_of view 12) (buffer_at buffers (u32_of view 8)))

-- a view's bytes: in itself up to 12, else in a buffer
unfoldable pub view_bytes : List (List ℕ) → List ℕ → List ℕ
view_bytes buffers view = if nat_le (u32_of view 0) 12 then short_bytes view else long_bytes buffers view

-- a view's range lies in one of the buffers, and its prefix agrees
unfoldable pub leads_right : List (List ℕ) → List ℕ → Bool
leads_right buffers view = nat_lt (u32_of view 8) (length buffers) && nat_le (u32_of view 12 + u32_of view 0) (length (buffer_at buffers (u32_of view 8)))
    && bytes_eq (take 4 (drop 4 view)) (take 4 (long_bytes buffers view))

-- a view's padding is zero, or it leads to its bytes
unfoldable pub is_good_view : List (List ℕ) → List ℕ → Bool
is_good_view buffers view = if nat_le (u32_of view 0) 12 then all_zero (drop (4 + u32_of view 0) view) else leads_right buffers view

-- each of the buffers is UTF-8
abbrev pub AreTexts : List (List ℕ) → Type 0
AreTexts buffers = (number : ℕ) → number < length buffers → is_utf8 (buffer_at buffers number) ≡ true

-- a good view, and text
abbrev pub is_text_view : List (List ℕ) → List ℕ → Bool
is_text_view buffers view = is_good_view buffers view && is_utf8 (view_bytes buffers view)

-- a good view, and no text
abbrev pub is_no_text_view : List (List ℕ) → List ℕ → Bool
is_no_text_view buffers view = is_good_view buffers view && not (is_utf8 (view_bytes buffers view))

-- some view of a row that is not null is not good
unfoldable pub has_bad_view : List ℕ → List (List ℕ) → Option (List Bool) → Bool
has_bad_view views buffers validity = some_row (λ row. is_valid validity row && not (is_good_view buffers (view_at views row))) (view_rows views)

-- some good view of a row that is not null is not UTF-8
unfoldable pub has_bad_view_text : List ℕ → List (List ℕ) → Option (List Bool) → Bool
has_bad_view_text views buffers validity = some_row (λ row. is_valid validity row && is_no_text_view buffers (view_at views row)) (view_rows views)

-- the cells: each view's bytes as a cell, null where the row is null
abbrev pub view_cells : Bool → Views → List Cell
view_cells is_text p = masked p.validity (from_on (λ row. bytes_cell is_text (view_bytes p.buffers (view_at p.views row))) 0 (view_rows p.views))

-- the rows from a place on, so many of them
abbrev pub view_part : ℕ → ℕ → Views → Views
view_part offset rows p =
    record { kind = p.kind; views = part (16 * offset) (16 * rows) p.views; buffers = p.buffers; validity = option_map (part offset rows) p.validity }

-- why parts are refused: the layout is another, the views are not whole rows or the validity is not of as many,
-- or on a row that is not null a good view is not UTF-8 where it is to be text, or a view is not good
abbrev pub view_fault : Bool → Bool → Views → Option ArrayError
view_fault is_text suits p =
    if not suits then Some DataType
    else (if not (nat_eq (length p.views % 16) 0 && has_rows p.validity (view_rows p.views)) then Some Length
    else (if is_text && has_bad_view_text p.views p.buffers p.validity then Some Utf8
    else (if has_bad_view p.views p.buffers p.validity then Some View
    else None)))
