-- Arrays whose dictionaries' values stand in other lists: their keys are moved, and their parts are the lists'. (Arrow Columnar Format, "Dictionary-encoded Layout".)
use Rattle.std.specs.Prelude.{◌≡◌, ℕ, suc, ◌+◌, ◌-◌, ◌^◌, List, length, Bool, true, false, ◌&&◌, ◌||◌, Option, ℤ, pos, nat_lt, if◌then◌else◌}
use Rattle.arrow_spec.specs.declared.types.IntegerType.{IntegerType}
use Rattle.arrow_spec.specs.declared.types.IntegerType.TheVariants.{Int8, Int16, Int32, Int64, Int128, UInt8, UInt16, UInt32, UInt64}
use Rattle.arrow_spec.specs.Cells.{Cell}
use Rattle.arrow_spec.specs.Arrays.{from_on}
use Rattle.arrow_spec.specs.Counts.{magnitude}
use Rattle.arrow_spec.specs.Faults.{some_row}
use Rattle.arrow_spec.specs.Kinds.{dictionary_count}
use Rattle.arrow_types.specs.KindCode.{by_tree}
use Rattle.arrow_buffers.specs.Rows.{is_valid}
use Rattle.arrow_arrays.specs.CellCode.{cell_to}
use Rattle.arrow_arrays.specs.Heads.{Indexed, listed, mapped, sized, structured, tagged, indexed, have_keys, joined, number_at}
use Rattle.arrow_arrays.specs.Parts.{Parts, Forest, leaf, nested, none, also, kind_in, cells_each}
use Rattle.laws_unify.specs.Lists.{StandsAt, fit}

-- the parts of each dictionary, by its number: dictionaries are numbered in preorder
abbrev pub Lists : Type 0
Lists = ℕ → Forest

-- whether two cells are one
unfoldable pub is_same_cell : Cell → Cell → Bool
is_same_cell = by_tree cell_to

-- the values of some parts, one after another
abbrev pub values_of : Forest → List Cell
values_of parts = joined (cells_each parts)

-- the place of a dictionary's parts in a list
abbrev pub place_in : Forest → Forest → ℕ
place_in list parts = fit is_same_cell (values_of list) (values_of parts)

-- a row's key moved by a place; 0 where the row is null
abbrev pub moved_at : ℕ → List ℤ → Option (List Bool) → ℕ → ℤ
moved_at o keys validity row = if is_valid validity row then pos (o + magnitude (number_at keys row)) else pos 0

abbrev pub moved : ℕ → Indexed → Indexed
moved o d = record { kind = d.kind; index = d.index; keys = from_on (moved_at o d.keys d.validity) 0 (length d.keys); validity = d.validity }

-- an array over lists, the first of whose dictionaries has the number; several, one behind another; and several parts of one dictionary
abbrev mutual
  pub over : Lists → Parts → ℕ → Parts
  over us (leaf l) id = leaf l
  over us (nested (indexed d) parts) id = nested (indexed (moved (place_in (us id) parts) d)) (us id)
  over us (nested (listed l) cs) id = nested (listed l) (over_each us cs id)
  over us (nested (mapped l) cs) id = nested (mapped l) (over_each us cs id)
  over us (nested (sized c) cs) id = nested (sized c) (over_each us cs id)
  over us (nested (structured c) cs) id = nested (structured c) (over_each us cs id)
  over us (nested (tagged t) cs) id = nested (tagged t) (over_each us cs id)

  pub over_each : Lists → Forest → ℕ → Forest
  over_each us none id = none
  over_each us (also p ps) id = also (over us p id) (over_each us ps (id + dictionary_count (kind_in p)))

abbrev pub over_parts : Lists → Forest → ℕ → Forest
over_parts us none id = none
over_parts us (also p ps) id = also (over us p id) (over_parts us ps id)

-- ── keys that are too large ──

-- the greatest number of an integer type
abbrev pub greatest : IntegerType → ℕ
greatest Int8 = 2 ^ 7 - 1
greatest Int16 = 2 ^ 15 - 1
greatest Int32 = 2 ^ 31 - 1
greatest Int64 = 2 ^ 63 - 1
greatest Int128 = 2 ^ 127 - 1
greatest UInt8 = 2 ^ 8 - 1
greatest UInt16 = 2 ^ 16 - 1
greatest UInt32 = 2 ^ 32 - 1
greatest UInt64 = 2 ^ 64 - 1

-- a row is not null, and its key moved by a place passes the type of the keys
abbrev pub is_large_at : IntegerType → ℕ → List ℤ → Option (List Bool) → ℕ → Bool
is_large_at t o keys validity row = is_valid validity row && nat_lt (greatest t) (o + magnitude (number_at keys row))

abbrev pub has_large_key : ℕ → Indexed → Bool
has_large_key o d = some_row (is_large_at d.index o d.keys d.validity) (length d.keys)

-- some key of an array over lists is too large
abbrev mutual
  pub is_large : Lists → Parts → ℕ → Bool
  is_large us (leaf l) id = false
  is_large us (nested (indexed d) parts) id = has_large_key (place_in (us id) parts) d
  is_large us (nested (listed l) cs) id = are_large us cs id
  is_large us (nested (mapped l) cs) id = are_large us cs id
  is_large us (nested (sized c) cs) id = are_large us cs id
  is_large us (nested (structured c) cs) id = are_large us cs id
  is_large us (nested (tagged t) cs) id = are_large us cs id

  pub are_large : Lists → Forest → ℕ → Bool
  are_large us none id = false
  are_large us (also p ps) id = is_large us p id || are_large us ps (id + dictionary_count (kind_in p))

abbrev pub parts_large : Lists → Forest → ℕ → Bool
parts_large us none id = false
parts_large us (also p ps) id = is_large us p id || parts_large us ps id

-- ── where they hold the same ──

-- each dictionary that stands outermost in an array stands in its list, and its keys name its values; and in several arrays
abbrev mutual
  pub Covers : Lists → Parts → ℕ → Type 0
  Covers us (leaf l) id = Unit {0}
  Covers us (nested (indexed d) parts) id = StandsAt is_same_cell (values_of (us id)) (values_of parts) × (have_keys (length (values_of parts)) d.keys d.validity ≡ true)
  Covers us (nested (listed l) cs) id = CoversEach us cs id
  Covers us (nested (mapped l) cs) id = CoversEach us cs id
  Covers us (nested (sized c) cs) id = CoversEach us cs id
  Covers us (nested (structured c) cs) id = CoversEach us cs id
  Covers us (nested (tagged t) cs) id = CoversEach us cs id

  pub CoversEach : Lists → Forest → ℕ → Type 0
  CoversEach us none id = Unit {0}
  CoversEach us (also p ps) id = Covers us p id × CoversEach us ps (id + dictionary_count (kind_in p))

-- each dictionary that stands in an array, at any depth, has the parts of its number
abbrev mutual
  pub IsOver : Lists → Parts → ℕ → Type 0
  IsOver us (leaf l) id = Unit {0}
  IsOver us (nested (indexed d) parts) id = (parts ≡ us id) × PartsAreOver us parts (suc id)
  IsOver us (nested (listed l) cs) id = AreOver us cs id
  IsOver us (nested (mapped l) cs) id = AreOver us cs id
  IsOver us (nested (sized c) cs) id = AreOver us cs id
  IsOver us (nested (structured c) cs) id = AreOver us cs id
  IsOver us (nested (tagged t) cs) id = AreOver us cs id

  pub AreOver : Lists → Forest → ℕ → Type 0
  AreOver us none id = Unit {0}
  AreOver us (also p ps) id = IsOver us p id × AreOver us ps (id + dictionary_count (kind_in p))

  pub PartsAreOver : Lists → Forest → ℕ → Type 0
  PartsAreOver us none id = Unit {0}
  PartsAreOver us (also p ps) id = IsOver us p id × PartsAreOver us ps id
