-- The rows of a child to which a row leads.
use Rattle.std.specs.Prelude.{◌≡◌, ◌<◌, ◌≤◌, length, get_or, ℕ, zero, suc, ◌-◌, ◌*◌, List, [], ◌∷◌, Bool, true, false, ℤ, nat_lt, if◌then◌else◌}
use Rattle.arrow_spec.specs.Cells as cells
use Rattle.arrow_spec.specs.Cells.{Cell, cells_of}
use Rattle.arrow_spec.specs.Counts.{magnitude}
use Rattle.arrow_spec.specs.Arrays.{from_on, id_place, or_0}
use Rattle.view_types.specs.declared.layout.Layout.{Layout}
use Rattle.view_types.specs.declared.layout.Layout.TheVariants.{Lists, FixedLists, Union, Dictionary}
use Rattle.view_types.specs.Views.{IsRow, Top, View, array, cell_of, cells_each, child_cell, child_row, children_of, layout_of, number_in, offset_in, rows_each, type_in}

-- of which child, from which row on, and how many
pub record Span : Type 0 where
  pub child : ℕ
  pub first : ℕ
  pub count : ℕ

-- the part in which the n-th of all rows stands, and its row there
abbrev pub part_among : List ℕ → ℕ → ℕ × ℕ
part_among [] n = (0, n)
part_among (m ∷ ns) n = if nat_lt n m then (0, n) else (suc (part_among ns (n - m)).0, (part_among ns (n - m)).1)

abbrev pub span_in : Layout → Top → List ℕ → ℕ → Span
span_in (Lists is_large) t ns row = record { child = 0; first = offset_in t is_large row; count = offset_in t is_large (suc row) - offset_in t is_large row }
span_in (FixedLists n) t ns row = record { child = 0; first = n * row; count = n }
span_in (Union mode) t ns row = record { child = or_0 (id_place t.ids (type_in t row)); first = child_row t mode row; count = 1 }
span_in (Dictionary i) t ns row = record { child = (part_among ns (magnitude (number_in t i row))).0; first = (part_among ns (magnitude (number_in t i row))).1; count = 1 }
span_in l t ns row = record { child = 0; first = 0; count = 0 }

abbrev pub span_of : View → ℕ → Span
span_of (array t cs) row = span_in t.layout t (rows_each cs) row

-- the type of a union's row
abbrev pub tag_of : View → ℕ → ℤ
tag_of (array t cs) row = type_in t row

abbrev pub has_spans : Layout → Bool
has_spans (Lists is_large) = true
has_spans (FixedLists n) = true
has_spans (Union mode) = true
has_spans (Dictionary i) = true
has_spans l = false

abbrev pub is_union : Layout → Bool
is_union (Union mode) = true
is_union l = false

-- what rows of a child are to a row: the items of a list, or the one cell, of a union with its type
abbrev pub span_cell : Layout → ℤ → List Cell → Cell
span_cell (Lists is_large) tag xs = cells.«list» (cells_of xs)
span_cell (FixedLists n) tag xs = cells.«list» (cells_of xs)
span_cell (Union mode) tag (x ∷ xs) = cells.tagged tag x
span_cell (Dictionary i) tag (x ∷ xs) = x
span_cell l tag xs = cells.null

-- The law: they are what the row's cell holds.
abbrev pub SpansAreCells : Type 0
SpansAreCells = (v : View) (row : ℕ) → IsRow v row → has_spans (layout_of v) ≡ true
    → cell_of v row ≡ span_cell (layout_of v) (tag_of v row) (from_on (λ j. child_cell (cells_each (children_of v)) (span_of v row).child j) (span_of v row).first (span_of v row).count)

-- no number is below one before it
abbrev pub IsInOrder : List ℕ → Type 0
IsInOrder xs = (i j : ℕ) → i ≤ j → j < length xs → get_or xs i 0 ≤ get_or xs j 0

-- where a part starts: where the one before it ends
abbrev pub start_of : ℕ → List ℕ → ℕ → ℕ
start_of b ends zero = b
start_of b ends (suc k) = get_or ends k 0
