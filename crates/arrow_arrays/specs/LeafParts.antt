-- What an array without children is seen as, how many rows it has and what stands in them. (Arrow Columnar Format, "Physical Memory Layout".)
use Rattle.std.specs.Prelude.{ℕ, List, Bool, true, false, ◌&&◌, Option, None, ℤ, pos, map, length, nat_eq, nat_lt}
use Rattle.std.specs.List.{list_all}
use Rattle.std.specs.Int.{Width, w8, w16, w32, w64, w128, cast_signed}
use Rattle.arrow_spec.specs.Flat.{little, num}
use Rattle.arrow_spec.specs.Kinds.{Kind}
use Rattle.arrow_spec.specs.Cells as cells
use Rattle.arrow_spec.specs.Cells.{Cell}
use Rattle.arrow_spec.specs.Arrays.{or_0}
use Rattle.arrow_types.specs.Physical.{physical_of, primitive_size}
use Rattle.arrow_types.specs.declared.physical.PhysicalType.{PhysicalType}
use Rattle.arrow_types.specs.declared.physical.PhysicalType.TheVariants as physical
use Rattle.arrow_types.specs.declared.physical.PrimitiveType.{PrimitiveType}
use Rattle.arrow_types.specs.declared.physical.PrimitiveType.TheVariants as primitive
use Rattle.arrow_buffers.specs.declared.error.ArrayError.{ArrayError}
use Rattle.arrow_buffers.specs.Rows.{null_rows}
use Rattle.arrow_buffers.specs.Layouts.{is_null, is_boolean, is_variable_any, is_view}
use Rattle.arrow_buffers.specs.Leaf.{Leaf, leaf_cells, leaf_part, leaf_fault, fixed_rows, fixed_cells, fixed_part, fixed_fault, Nulls, null_cells, nulls_fault}
use Rattle.arrow_buffers.specs.Variable.{Variable, variable_rows, variable_part, variable_cells, variable_fault}
use Rattle.arrow_buffers.specs.Views.{Views, view_rows, view_part, view_cells, view_fault}

-- The parts of an array without children, by its layout.
pub data LeafParts : Type 0 where
  -- nulls alone
  nulls : Nulls → LeafParts
  -- truth values
  bits : Leaf Bool → LeafParts
  -- numbers of one width, each as its bytes, the lowest first
  numbers : Leaf (List ℕ) → LeafParts
  -- byte strings of one size, one after another
  fixed : Leaf ℕ → LeafParts
  -- byte strings and texts between offsets
  binary : Variable → LeafParts
  text : Variable → LeafParts
  -- views of byte strings and of texts
  binary_views : Views → LeafParts
  text_views : Views → LeafParts

-- numbers in place of which their bytes stand
abbrev pub as_bytes : {A : Type 0} → (A → List ℕ) → Leaf A → Leaf (List ℕ)
as_bytes write f = record { kind = f.kind; values = map write f.values; validity = f.validity }

-- the kind of its rows
abbrev pub leaf_kind_in : LeafParts → Kind
leaf_kind_in (nulls n) = n.kind
leaf_kind_in (bits f) = f.kind
leaf_kind_in (numbers f) = f.kind
leaf_kind_in (fixed f) = f.kind
leaf_kind_in (binary p) = p.kind
leaf_kind_in (text p) = p.kind
leaf_kind_in (binary_views p) = p.kind
leaf_kind_in (text_views p) = p.kind

-- how many rows it has
abbrev pub leaf_rows_in : LeafParts → ℕ
leaf_rows_in (nulls n) = n.rows
leaf_rows_in (bits f) = length f.values
leaf_rows_in (numbers f) = length f.values
leaf_rows_in (fixed f) = fixed_rows f
leaf_rows_in (binary p) = variable_rows p.offsets
leaf_rows_in (text p) = variable_rows p.offsets
leaf_rows_in (binary_views p) = view_rows p.views
leaf_rows_in (text_views p) = view_rows p.views

-- which rows are valid, where that is given
abbrev pub leaf_validity_in : LeafParts → Option (List Bool)
leaf_validity_in (nulls n) = None
leaf_validity_in (bits f) = f.validity
leaf_validity_in (numbers f) = f.validity
leaf_validity_in (fixed f) = f.validity
leaf_validity_in (binary p) = p.validity
leaf_validity_in (text p) = p.validity
leaf_validity_in (binary_views p) = p.validity
leaf_validity_in (text_views p) = p.validity

-- how many rows are null
abbrev pub leaf_null_rows_in : LeafParts → ℕ
leaf_null_rows_in (nulls n) = n.rows
leaf_null_rows_in (bits f) = null_rows f.validity
leaf_null_rows_in (numbers f) = null_rows f.validity
leaf_null_rows_in (fixed f) = null_rows f.validity
leaf_null_rows_in (binary p) = null_rows p.validity
leaf_null_rows_in (text p) = null_rows p.validity
leaf_null_rows_in (binary_views p) = null_rows p.validity
leaf_null_rows_in (text_views p) = null_rows p.validity

-- ── the cells of numbers ──

-- the number of a width at a place of some bytes, without a sign and with one
abbrev pub unsigned_at : Width → ℕ → List ℕ → ℕ
unsigned_at w at bytes = or_0 (num bytes at w little)

abbrev pub signed_at : Width → ℕ → List ℕ → ℤ
signed_at w at bytes = cast_signed w (unsigned_at w at bytes)

-- the cell that a number's bytes are, by its primitive type; null for those whose numbers no array holds, floats and integers of 256 bits
abbrev pub primitive_cell : PrimitiveType → List ℕ → Cell
primitive_cell primitive.Int8 bytes = cells.number (signed_at w8 0 bytes)
primitive_cell primitive.Int16 bytes = cells.number (signed_at w16 0 bytes)
primitive_cell primitive.Int32 bytes = cells.number (signed_at w32 0 bytes)
primitive_cell primitive.Int64 bytes = cells.number (signed_at w64 0 bytes)
primitive_cell primitive.Int128 bytes = cells.number (signed_at w128 0 bytes)
primitive_cell primitive.Int256 bytes = cells.null
primitive_cell primitive.UInt8 bytes = cells.number (pos (unsigned_at w8 0 bytes))
primitive_cell primitive.UInt16 bytes = cells.number (pos (unsigned_at w16 0 bytes))
primitive_cell primitive.UInt32 bytes = cells.number (pos (unsigned_at w32 0 bytes))
primitive_cell primitive.UInt64 bytes = cells.number (pos (unsigned_at w64 0 bytes))
primitive_cell primitive.Float16 bytes = cells.null
primitive_cell primitive.Float32 bytes = cells.null
primitive_cell primitive.Float64 bytes = cells.null
primitive_cell primitive.DaysMs bytes = cells.interval (signed_at w32 0 bytes) (signed_at w32 4 bytes) (pos 0)
primitive_cell primitive.MonthDayNano bytes = cells.interval (signed_at w32 0 bytes) (signed_at w32 4 bytes) (signed_at w64 8 bytes)

-- the same in a layout; null where it is not of numbers
abbrev pub layout_cell : PhysicalType → List ℕ → Cell
layout_cell (physical.Primitive p) bytes = primitive_cell p bytes
layout_cell layout bytes = cells.null

-- the cell that a number's bytes are under a kind, extensions looked through
abbrev pub number_cell : Kind → List ℕ → Cell
number_cell k bytes = layout_cell (physical_of k) bytes

-- ── rows ──

-- the cells of its rows
abbrev pub leaf_cells_in : LeafParts → List Cell
leaf_cells_in (nulls n) = null_cells n
leaf_cells_in (bits f) = leaf_cells cells.bool f
leaf_cells_in (numbers f) = leaf_cells (number_cell f.kind) f
leaf_cells_in (fixed f) = fixed_cells f
leaf_cells_in (binary p) = variable_cells false p
leaf_cells_in (text p) = variable_cells true p
leaf_cells_in (binary_views p) = view_cells false p
leaf_cells_in (text_views p) = view_cells true p

-- the rows from a place on, so many of them
abbrev pub leaf_part_of : ℕ → ℕ → LeafParts → LeafParts
leaf_part_of offset rows (nulls n) = nulls (record { kind = n.kind; rows = rows })
leaf_part_of offset rows (bits f) = bits (leaf_part offset rows f)
leaf_part_of offset rows (numbers f) = numbers (leaf_part offset rows f)
leaf_part_of offset rows (fixed f) = fixed (fixed_part offset rows f)
leaf_part_of offset rows (binary p) = binary (variable_part offset rows p)
leaf_part_of offset rows (text p) = text (variable_part offset rows p)
leaf_part_of offset rows (binary_views p) = binary_views (view_part offset rows p)
leaf_part_of offset rows (text_views p) = text_views (view_part offset rows p)

-- ── which trees arrays have ──

-- the bytes of a number in a layout; 0 where no array holds numbers
abbrev pub number_size : PhysicalType → ℕ
number_size (physical.Primitive p) = primitive_size p
number_size layout = 0

-- the layout is that of numbers, and each is of the layout's size
abbrev pub are_numbers : ℕ → List (List ℕ) → Bool
are_numbers size values = nat_lt 0 size && list_all (λ bytes. nat_eq (length bytes) size) values

-- why no array has such parts; none for the parts that arrays have
abbrev pub leaf_fault_in : LeafParts → Option ArrayError
leaf_fault_in (nulls n) = nulls_fault (is_null (physical_of n.kind))
leaf_fault_in (bits f) = leaf_fault (is_boolean (physical_of f.kind)) (length f.values) f.validity
leaf_fault_in (numbers f) = leaf_fault (are_numbers (number_size (physical_of f.kind)) f.values) (length f.values) f.validity
leaf_fault_in (fixed f) = fixed_fault f
leaf_fault_in (binary p) = variable_fault false (is_variable_any false (physical_of p.kind)) p
leaf_fault_in (text p) = variable_fault true (is_variable_any true (physical_of p.kind)) p
leaf_fault_in (binary_views p) = view_fault false (is_view false (physical_of p.kind)) p
leaf_fault_in (text_views p) = view_fault true (is_view true (physical_of p.kind)) p
