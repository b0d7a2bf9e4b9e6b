-- Unions whose types and offsets are lent. (Arrow Columnar Format, "Union Layout".)
use Rattle.std.specs.Prelude.{◌≡◌, ℕ, zero, suc, ◌*◌, ◌≤◌, ◌<◌, List, [], ◌++◌, Bool, true, false, Option, Some, None, ℤ, nat_le, nat_lt, ◌&&◌, ◌||◌, slice_index_or, length}
use Rattle.std.specs.Int.{w8, w32}
use Rattle.arrow_spec.specs.declared.error.IpcError.{IpcError}
use Rattle.arrow_spec.specs.declared.error.IpcError.TheVariants.{OutOfSpec, Unsupported}
use Rattle.arrow_spec.specs.declared.error.Feature.TheVariants.{UnionNulls}
use Rattle.arrow_spec.specs.declared.error.OutOfSpecKind.TheVariants.{InvalidOffsets, InvalidUnion}
use Rattle.arrow_spec.specs.declared.types.UnionMode.{UnionMode}
use Rattle.arrow_spec.specs.declared.types.UnionMode.TheVariants.{Dense, Sparse}
use Rattle.arrow_spec.specs.Kinds as kind
use Rattle.arrow_spec.specs.Kinds.{Kind, Fields}
use Rattle.arrow_spec.specs.Counts.{RecordBatch, Place, is_negative, magnitude}
use Rattle.arrow_spec.specs.Arrays.{buf, has_nulls, id_place, signed_in, types_buffer}
use Rattle.arrow_spec.specs.Faults.{cause, dense_buffer_faults, is_no_id, numbers_faults, some_row}
use Rattle.arrow_types.specs.KindOf.{are_stated, fields_of, ids_of}
use Rattle.arrow_types.specs.UnionIds.{are_right}
use Rattle.view_types.specs.declared.layout.Range.{Range}
use Rattle.view_types.specs.declared.layout.Layout.TheVariants.{Union}
use Rattle.view_types.specs.Ranges.{Lies}
use Rattle.view_types.specs.Sound.{HasPlaces, Values}
use Rattle.view_types.specs.Views.{Top, order_of, part_in, signed_at, type_in}
use Rattle.ipc_view.specs.declared.unions.UnionFields.{UnionFields}
use Rattle.ipc_view.specs.declared.batch.ChildRows.{ChildRows}
use Rattle.ipc_view.specs.declared.batch.ChildRows.TheVariants.{Same, Stated}
use Rattle.ipc_view.specs.Nested.{are_shown}

-- ── kinds ──

-- the kind of unions whose type has these fields, with others in their place
abbrev pub union_of : UnionFields → Fields → Kind
union_of u fs = kind.union u.mode (are_stated u.ids.now) (ids_of u.ids.now (length u.children.now)) fs

-- their ids are right, and their children can be shown
pub record UnionShown (u : UnionFields) : Type 0 where
  pub ids : are_right (ids_of u.ids.now (length u.children.now)) (length u.children.now) ≡ true
  pub children : are_shown (fields_of u.children.now) ≡ true

-- the children of a dense union are read whole, where it has rows
abbrev pub child_rows : UnionMode → ℕ → ChildRows
child_rows Sparse rows = Same rows
child_rows Dense zero = Same 0
child_rows Dense (suc n) = Stated

-- ── what is wrong ──

-- with the buffers themselves, or there are nulls
abbrev pub union_buffers_faults : RecordBatch → UnionMode → Place → ℕ → List IpcError
union_buffers_faults m mode p rows = cause (nat_lt p.buffer (types_buffer m p) && has_nulls m p) (Unsupported UnionNulls)
    ++ (numbers_faults m (types_buffer m p) 1 rows ++ dense_buffer_faults m mode p rows)

-- where there are rows
abbrev pub union_top_faults : RecordBatch → UnionMode → Place → ℕ → List IpcError
union_top_faults m mode p zero = []
union_top_faults m mode p (suc n) = union_buffers_faults m mode p (suc n)

-- with the i-th buffer, if it has the offsets of a dense union
abbrev pub places_faults : RecordBatch → UnionMode → ℕ → ℕ → List IpcError
places_faults m Sparse i rows = []
places_faults m Dense i rows = numbers_faults m i 4 rows

-- the offset of a row
abbrev pub place_number : Top → ℕ → ℤ
place_number t row = signed_at (part_in t.input t.second) (4 * row) w32 (order_of t.is_big)

-- a row's type is none of the ids
abbrev pub is_untyped : Top → ℕ → Bool
is_untyped t row = is_no_id (id_place t.ids (type_in t row))

-- an offset is none of so many rows
abbrev pub is_bad_offset : ℕ → ℤ → Bool
is_bad_offset rows at = is_negative at || nat_le rows (magnitude at)

-- that of a row, where the union is dense
abbrev pub is_placed_wrong : Top → UnionMode → ℕ → ℕ → Bool
is_placed_wrong t Sparse rows row = false
is_placed_wrong t Dense rows row = is_bad_offset rows (place_number t row)

-- or none of those of its child, of which each has so many
abbrev pub is_bad_place : List ℕ → Option ℕ → ℤ → Bool
is_bad_place ns None at = false
is_bad_place ns (Some i) at = is_bad_offset (slice_index_or ns i 0) at

abbrev pub is_misplaced : Top → UnionMode → List ℕ → ℕ → Bool
is_misplaced t Sparse ns row = false
is_misplaced t Dense ns row = is_bad_place ns (id_place t.ids (type_in t row)) (place_number t row)

-- with a row, and with the rows of the whole, by the ranges that show them and the rows of the children
abbrev pub row_causes : Top → UnionMode → List ℕ → ℕ → List IpcError
row_causes t mode ns row = cause (is_untyped t row) (OutOfSpec InvalidUnion) ++ cause (is_misplaced t mode ns row) (OutOfSpec InvalidOffsets)

abbrev pub union_causes : Top → UnionMode → List ℕ → List IpcError
union_causes t mode ns = cause (some_row (is_untyped t) t.rows) (OutOfSpec InvalidUnion) ++ cause (some_row (is_misplaced t mode ns) t.rows) (OutOfSpec InvalidOffsets)

-- nothing is wrong with a row, or with none
pub record IsTyped (t : Top) (mode : UnionMode) (ns : List ℕ) (row : ℕ) : Type 0 where
  pub typed : is_untyped t row ≡ false
  pub placed : is_misplaced t mode ns row ≡ false

pub record AreTyped (t : Top) (mode : UnionMode) (ns : List ℕ) : Type 0 where
  pub typed : some_row (is_untyped t) t.rows ≡ false
  pub placed : some_row (is_misplaced t mode ns) t.rows ≡ false

-- ── what is seen ──

-- the parts of a view of unions, its children aside
abbrev pub union_part : List ℕ → Bool → UnionMode → List ℤ → ℕ → Range → Range → Top
union_part input is_big mode ids rows types places = record {
  input = input;
  is_big = is_big;
  layout = Union mode;
  rows = rows;
  ids = ids;
  validity = None;
  first = types;
  second = places;
  buffers = [];
}

-- a range shows the i-th buffer, if it has the offsets of a dense union
abbrev pub ShowsPlaces : List ℕ → RecordBatch → UnionMode → ℕ → ℕ → Range → Type 0
ShowsPlaces input m Sparse i rows r = Unit {0}
ShowsPlaces input m Dense i rows r = (part_in input r ≡ buf m i) × (Lies input r × (4 * rows ≤ r.length))

-- these parts show the types and the offsets
pub record IsUnionTop (m : RecordBatch) (mode : UnionMode) (ids : List ℤ) (p : Place) (rows : ℕ) (t : Top) : Type 0 where
  pub all_rows : t.rows ≡ rows
  pub layout_is : t.layout ≡ Union mode
  pub ids_are : t.ids ≡ ids
  pub no_validity : t.validity ≡ None
  pub stand : Values t 1
  pub have_places : HasPlaces t mode
  pub types : (row : ℕ) → row < rows → type_in t row ≡ signed_in m w8 (types_buffer m p) row
  pub places : mode ≡ Dense → (row : ℕ) → row < rows → place_number t row ≡ signed_in m w32 (suc (types_buffer m p)) row
