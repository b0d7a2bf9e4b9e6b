-- The top of an array with children, its children apart: how many rows it has, what stands in a row by what stands in the children's rows,
-- a part of the rows, and why no array has such a top. (Arrow Columnar Format, "Variable-size List Layout", "Fixed-Size List Layout", "Struct Layout", "Union Layout",
-- "Dictionary-encoded Layout".)
use Rattle.std.specs.Prelude.{ℕ, zero, suc, ◌+◌, ◌≤◌, ◌*◌, ◌-◌, ◌++◌, ◌&&◌, ◌||◌, List, [], ◌∷◌, Bool, true, false, Option, Some, None, ℤ, pos, map, length, nat_eq, nat_le, not, slice_index_or, if◌then◌else◌}
use Rattle.std.specs.List.{list_all, sum}
use Rattle.std.specs.Option.{option_map}
use Rattle.arrow_spec.specs.Kinds as kind
use Rattle.arrow_spec.specs.declared.types.IntegerType.{IntegerType}
use Rattle.arrow_spec.specs.declared.types.UnionMode.{UnionMode}
use Rattle.arrow_spec.specs.declared.types.UnionMode.TheVariants.{Dense, Sparse}
use Rattle.arrow_spec.specs.Kinds.{Kind, Fields, Offsets, small, large, width, is_same_integer, is_same_kind}
use Rattle.arrow_spec.specs.Schema.{first_is_struct_of_two}
use Rattle.arrow_spec.specs.Cells as cells
use Rattle.arrow_spec.specs.Cells.{Cell, cells_of}
use Rattle.arrow_spec.specs.Counts.{magnitude, is_negative}
use Rattle.arrow_spec.specs.Arrays.{from_on, id_place, or_0, keyed}
use Rattle.arrow_spec.specs.Faults.{some_row, is_no_id}
use Rattle.arrow_types.specs.KindCode.{kind_eq}
use Rattle.arrow_types.specs.UnionIds.{are_right}
use Rattle.arrow_buffers.specs.declared.error.ArrayError.{ArrayError}
use Rattle.arrow_buffers.specs.declared.error.ArrayError.TheVariants.{DataType, Length, Offsets as BadOffsets, UnionType, Key}
use Rattle.arrow_buffers.specs.Rows.{part, has_rows, is_valid, masked}
use Rattle.arrow_buffers.specs.Variable.{place_at, are_offsets, variable_rows}

-- lists, or maps, between offsets of a width
pub record Listed : Type 0 where
  pub kind : Kind
  pub width : Offsets
  pub offsets : List ℤ
  pub validity : Option (List Bool)

-- so many rows
pub record Counted : Type 0 where
  pub kind : Kind
  pub rows : ℕ
  pub validity : Option (List Bool)

-- a row of one of several children each: its type, and the child's row where that is not the same
pub record Tagged : Type 0 where
  pub kind : Kind
  pub types : List ℤ
  pub offsets : Option (List ℤ)

-- keys of an integer type into the rows of all children, one after another
pub record Indexed : Type 0 where
  pub kind : Kind
  pub index : IntegerType
  pub keys : List ℤ
  pub validity : Option (List Bool)

pub data Head : Type 0 where
  listed : Listed → Head
  mapped : Listed → Head
  sized : Counted → Head
  structured : Counted → Head
  tagged : Tagged → Head
  indexed : Indexed → Head

-- the kind of its rows
abbrev pub head_kind : Head → Kind
head_kind (listed l) = l.kind
head_kind (mapped l) = l.kind
head_kind (sized c) = c.kind
head_kind (structured c) = c.kind
head_kind (tagged t) = t.kind
head_kind (indexed d) = d.kind

-- how many rows it has
abbrev pub head_rows : Head → ℕ
head_rows (listed l) = variable_rows l.offsets
head_rows (mapped l) = variable_rows l.offsets
head_rows (sized c) = c.rows
head_rows (structured c) = c.rows
head_rows (tagged t) = length t.types
head_rows (indexed d) = length d.keys

-- which rows are valid, where that is given; a union says it by its children
abbrev pub head_validity : Head → Option (List Bool)
head_validity (listed l) = l.validity
head_validity (mapped l) = l.validity
head_validity (sized c) = c.validity
head_validity (structured c) = c.validity
head_validity (tagged t) = None
head_validity (indexed d) = d.validity

-- the size of lists of one size, extensions looked through; 0 for other kinds
abbrev pub list_size : Kind → ℕ
list_size (kind.fixed_size_list size fs) = size
list_size (kind.extension name metadata k) = list_size k
list_size k = 0

-- a union's ids, extensions looked through; none for other kinds
abbrev pub ids_in : Kind → List ℤ
ids_in (kind.union mode stated ids fs) = ids
ids_in (kind.extension name metadata k) = ids_in k
ids_in k = []

-- ── what stands in a row ──

-- the items of a row
abbrev pub row_items : {A : Type 0} → List ℤ → List A → ℕ → List A
row_items offsets items row = part (place_at offsets row) (place_at offsets (suc row) - place_at offsets row) items

-- the cells of the first child
abbrev pub first_of : {A : Type 0} → List (List A) → List A
first_of [] = []
first_of (xs ∷ xss) = xs

-- a row across several columns
abbrev pub across : List (List Cell) → ℕ → List Cell
across [] row = []
across (cs ∷ css) row = slice_index_or cs row cells.null ∷ across css row

-- the type of a row, or its offset
abbrev pub number_at : List ℤ → ℕ → ℤ
number_at xs row = slice_index_or xs row (pos 0)

-- the child under an id
abbrev pub child_under : {A : Type 0} → List ℤ → List (List A) → ℤ → List A
child_under ids xss t = slice_index_or xss (or_0 (id_place ids t)) []

-- the child's row: the same, or the one in the offsets
abbrev pub child_place : Option (List ℤ) → ℕ → ℕ
child_place None row = row
child_place (Some offsets) row = place_at offsets row

-- a row of a union
abbrev pub tagged_cell : List ℤ → List ℤ → Option (List ℤ) → List (List Cell) → ℕ → Cell
tagged_cell ids types offsets css row =
    cells.tagged (number_at types row) (slice_index_or (child_under ids css (number_at types row)) (child_place offsets row) cells.null)

-- the rows of all children, one after another
abbrev pub joined : {A : Type 0} → List (List A) → List A
joined [] = []
joined (xs ∷ xss) = xs ++ joined xss

-- the row of all children's rows that a key says
abbrev pub indexed_cell : List ℤ → List (List Cell) → ℕ → Cell
indexed_cell keys css row = keyed (Some (joined css)) (number_at keys row)

-- what a row that is not null holds
abbrev pub head_cell : Head → List (List Cell) → ℕ → Cell
head_cell (listed l) css row = cells.«list» (cells_of (row_items l.offsets (first_of css) row))
head_cell (mapped l) css row = cells.«list» (cells_of (row_items l.offsets (first_of css) row))
head_cell (sized c) css row = cells.«list» (cells_of (part (list_size c.kind * row) (list_size c.kind) (first_of css)))
head_cell (structured c) css row = cells.struct (cells_of (across css row))
head_cell (tagged t) css row = tagged_cell (ids_in t.kind) t.types t.offsets css row
head_cell (indexed d) css row = indexed_cell d.keys css row

-- the cells, by the children's
abbrev pub head_cells : Head → List (List Cell) → List Cell
head_cells h css = masked (head_validity h) (from_on (head_cell h css) 0 (head_rows h))

-- ── a part ──

-- the rows from a place on, so many of them
abbrev pub listed_part : ℕ → ℕ → Listed → Listed
listed_part offset rows l = record {
  kind = l.kind;
  width = l.width;
  offsets = part offset (rows + 1) l.offsets;
  validity = option_map (part offset rows) l.validity;
}

abbrev pub counted_part : ℕ → ℕ → Counted → Counted
counted_part offset rows c = record { kind = c.kind; rows = rows; validity = option_map (part offset rows) c.validity }

abbrev pub tagged_part : ℕ → ℕ → Tagged → Tagged
tagged_part offset rows t = record { kind = t.kind; types = part offset rows t.types; offsets = option_map (part offset rows) t.offsets }

abbrev pub indexed_part : ℕ → ℕ → Indexed → Indexed
indexed_part offset rows d = record {
  kind = d.kind;
  index = d.index;
  keys = part offset rows d.keys;
  validity = option_map (part offset rows) d.validity;
}

abbrev pub head_part : ℕ → ℕ → Head → Head
head_part offset rows (listed l) = listed (listed_part offset rows l)
head_part offset rows (mapped l) = mapped (listed_part offset rows l)
head_part offset rows (sized c) = sized (counted_part offset rows c)
head_part offset rows (structured c) = structured (counted_part offset rows c)
head_part offset rows (tagged t) = tagged (tagged_part offset rows t)
head_part offset rows (indexed d) = indexed (indexed_part offset rows d)

-- the rows that each child has left with a part of the rows: all of them, or so many from a row on
pub data Cut : Type 0 where
  whole : Cut
  run : ℕ → ℕ → Cut

abbrev pub tagged_cut : ℕ → ℕ → Option (List ℤ) → Cut
tagged_cut offset rows None = run offset rows
tagged_cut offset rows (Some offsets) = whole

abbrev pub cut_of : ℕ → ℕ → Head → Cut
cut_of offset rows (listed l) = whole
cut_of offset rows (mapped l) = whole
cut_of offset rows (sized c) = run (list_size c.kind * offset) (list_size c.kind * rows)
cut_of offset rows (structured c) = run offset rows
cut_of offset rows (tagged t) = tagged_cut offset rows t.offsets
cut_of offset rows (indexed d) = whole

-- the children's cells that are left
abbrev pub cut_cells : Cut → List (List Cell) → List (List Cell)
cut_cells whole css = css
cut_cells (run offset rows) css = map (part offset rows) css

-- each child has the rows that are cut
abbrev pub Reaches : Cut → List ℕ → Type 0
Reaches whole ns = Unit {0}
Reaches (run o n) [] = Unit {0}
Reaches (run o n) (m ∷ ns) = (o + n ≤ m) × Reaches (run o n) ns

-- ── which tops arrays have ──

-- a kind's fields, extensions looked through
abbrev pub child_fields : Kind → Fields
child_fields (kind.«list» o fs) = fs
child_fields (kind.fixed_size_list n fs) = fs
child_fields (kind.struct fs) = fs
child_fields (kind.map sorted fs) = fs
child_fields (kind.union mode stated ids fs) = fs
child_fields (kind.extension name metadata k) = child_fields k
child_fields k = kind.none

-- children of these kinds stand under the fields
abbrev pub are_of : Fields → List Kind → Bool
are_of kind.none [] = true
are_of kind.none (k ∷ ks) = false
are_of (kind.field name nullable metadata k others) [] = false
are_of (kind.field name nullable metadata k others) (l ∷ ks) = kind_eq k l && are_of others ks

-- the kind of a dictionary's values, extensions looked through; for other kinds that of nulls
abbrev pub values_kind : Kind → Kind
values_kind (kind.dictionary index ordered id k) = k
values_kind (kind.extension name metadata k) = values_kind k
values_kind k = kind.null

-- there is a child, and each is of this kind, names, nullability and metadata aside
abbrev pub each_of : Kind → List Kind → Bool
each_of k [] = false
each_of k (l ∷ ks) = list_all (is_same_kind k) (l ∷ ks)

-- children of these kinds stand under the top: one a field, or several of a dictionary's values
abbrev pub are_under : Head → List Kind → Bool
are_under (listed l) ks = are_of (child_fields l.kind) ks
are_under (mapped l) ks = are_of (child_fields l.kind) ks
are_under (sized c) ks = are_of (child_fields c.kind) ks
are_under (structured c) ks = are_of (child_fields c.kind) ks
are_under (tagged t) ks = are_of (child_fields t.kind) ks
are_under (indexed d) ks = each_of (values_kind d.kind) ks

-- lists of a width, maps of structs of two, lists of one size above 0, structs, extensions looked through
abbrev pub is_list : Offsets → Kind → Bool
is_list small (kind.«list» small fs) = true
is_list large (kind.«list» large fs) = true
is_list o (kind.extension name metadata k) = is_list o k
is_list o k = false

abbrev pub is_map : Offsets → Kind → Bool
is_map small (kind.map sorted fs) = first_is_struct_of_two fs
is_map o (kind.extension name metadata k) = is_map o k
is_map o k = false

abbrev pub is_sized : Kind → Bool
is_sized (kind.fixed_size_list zero fs) = false
is_sized (kind.fixed_size_list (suc n) fs) = true
is_sized (kind.extension name metadata k) = is_sized k
is_sized k = false

abbrev pub is_struct : Kind → Bool
is_struct (kind.struct fs) = true
is_struct (kind.extension name metadata k) = is_struct k
is_struct k = false

-- dense, or sparse
abbrev pub is_mode : Bool → UnionMode → Bool
is_mode dense Dense = dense
is_mode dense Sparse = not dense

-- unions, dense or sparse, of right ids
abbrev pub is_union : Bool → Kind → Bool
is_union dense (kind.union mode stated ids fs) = is_mode dense mode && are_right ids (width fs)
is_union dense (kind.extension name metadata k) = is_union dense k
is_union dense k = false

-- dictionaries whose keys are of an integer type
abbrev pub is_dictionary : IntegerType → Kind → Bool
is_dictionary index (kind.dictionary keys ordered id k) = is_same_integer keys index
is_dictionary index (kind.extension name metadata k) = is_dictionary index k
is_dictionary index k = false

-- a union with offsets is dense
abbrev pub has_offsets : Option (List ℤ) → Bool
has_offsets None = false
has_offsets (Some offsets) = true

-- the kind is one of the top's layout
abbrev pub suits : Head → Bool
suits (listed l) = is_list l.width l.kind
suits (mapped l) = is_map l.width l.kind
suits (sized c) = is_sized c.kind
suits (structured c) = is_struct c.kind
suits (tagged t) = is_union (has_offsets t.offsets) t.kind
suits (indexed d) = is_dictionary d.index d.kind

-- each number is this one
abbrev pub are_all : ℕ → List ℕ → Bool
are_all rows = list_all (λ n. nat_eq n rows)

-- the children of a union have as many rows, or there are as many offsets
abbrev pub tagged_rows : Option (List ℤ) → ℕ → List ℕ → Bool
tagged_rows None rows ns = are_all rows ns
tagged_rows (Some offsets) rows ns = nat_eq (length offsets) rows

-- lists have one child, and the children have as many rows as the top asks
abbrev pub fits_rows : Head → List ℕ → Bool
fits_rows (listed l) ns = nat_eq (length ns) 1
fits_rows (mapped l) ns = nat_eq (length ns) 1
fits_rows (sized c) ns = are_all (list_size c.kind * c.rows) ns
fits_rows (structured c) ns = are_all c.rows ns
fits_rows (tagged t) ns = tagged_rows t.offsets (length t.types) ns
fits_rows (indexed d) ns = true

-- the rows of the first child
abbrev pub first_or_0 : List ℕ → ℕ
first_or_0 [] = 0
first_or_0 (n ∷ ns) = n

-- a row's offset is none of the rows of the child under its type; where the type is no id it is not looked at
abbrev pub is_bad_place : List ℕ → Option ℕ → ℤ → Bool
is_bad_place ns None at = false
is_bad_place ns (Some i) at = is_negative at || nat_le (slice_index_or ns i 0) (magnitude at)

abbrev pub fits_places : List ℤ → List ℤ → Option (List ℤ) → List ℕ → Bool
fits_places ids types None ns = true
fits_places ids types (Some offsets) ns = not (some_row (λ row. is_bad_place ns (id_place ids (number_at types row)) (number_at offsets row)) (length types))

-- the offsets rise within the child, or each is a row of its child
abbrev pub fits_offsets : Head → List ℕ → Bool
fits_offsets (listed l) ns = are_offsets l.offsets (first_or_0 ns)
fits_offsets (mapped l) ns = are_offsets l.offsets (first_or_0 ns)
fits_offsets (sized c) ns = true
fits_offsets (structured c) ns = true
fits_offsets (tagged t) ns = fits_places (ids_in t.kind) t.types t.offsets ns
fits_offsets (indexed d) ns = true

-- each type is an id
abbrev pub have_ids : List ℤ → List ℤ → Bool
have_ids ids types = not (some_row (λ row. is_no_id (id_place ids (number_at types row))) (length types))

abbrev pub fits_types : Head → Bool
fits_types (tagged t) = have_ids (ids_in t.kind) t.types
fits_types h = true

-- a key is none of so many rows
abbrev pub is_bad_key : ℕ → ℤ → Bool
is_bad_key held key = is_negative key || nat_le held (magnitude key)

-- the key of each row that is not null is one of so many rows
abbrev pub have_keys : ℕ → List ℤ → Option (List Bool) → Bool
have_keys held keys validity = not (some_row (λ row. is_valid validity row && is_bad_key held (number_at keys row)) (length keys))

-- the keys count over the rows of all children
abbrev pub fits_keys : Head → List ℕ → Bool
fits_keys (indexed d) ns = have_keys (sum ns) d.keys d.validity
fits_keys h ns = true

-- why children of such kinds and rows make no array with the top
abbrev pub head_fault : Head → List Kind → List ℕ → Option ArrayError
head_fault h ks ns =
    if not (suits h && are_under h ks) then Some DataType
    else (if not (has_rows (head_validity h) (head_rows h) && fits_rows h ns) then Some Length
    else (if not (fits_offsets h ns) then Some BadOffsets
    else (if not (fits_types h) then Some UnionType
    else (if not (fits_keys h ns) then Some Key
    else None))))
