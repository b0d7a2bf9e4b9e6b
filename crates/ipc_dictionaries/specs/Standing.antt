-- How the values of a dictionary stand to those that are held under its id. (Arrow Columnar Format, "Dictionary Messages".)
use Rattle.std.specs.Prelude.{ℕ, ◌≤◌, List, length, take, drop, slice_index_or, Bool, true, false, Option, Some, None, nat_lt, if◌then◌else◌}
use Rattle.arrow_spec.specs.Kinds.{Kind, null}
use Rattle.arrow_spec.specs.Cells.{Cell}
use Rattle.arrow_arrays.specs.CellCode.{content_eq}
use Rattle.arrow_arrays.specs.Heads.{each_of, joined}
use Rattle.arrow_arrays.specs.Parts.{Forest, kinds_each, rows_each, cells_each}
use Rattle.arrow_arrays.specs.PartsOf.{forest_of}
use Rattle.arrow_arrays.specs.declared.array.Array.{Array}
use Rattle.ipc_dictionaries.specs.declared.comparison.Place.{Place}
use Rattle.ipc_dictionaries.specs.declared.comparison.Standing.{Standing}
use Rattle.ipc_dictionaries.specs.declared.comparison.Standing.TheVariants.{Absent, Same, Longer, Other}

-- the cells of several arrays, one after another, and those from a place on
abbrev pub all_cells : List Array → List Cell
all_cells parts = joined (cells_each (forest_of parts))

abbrev pub cells_from : List Array → Place → List Cell
cells_from parts p = drop p.row (all_cells (drop p.part parts))

-- the row is one of its part's, or stands at their end
abbrev pub IsPlace : List Array → Place → Type 0
IsPlace parts p = p.row ≤ slice_index_or (rows_each (forest_of parts)) p.part 0

abbrev pub are_same_cells : List Cell → List Cell → Bool
are_same_cells xs ys = content_eq (null, xs) (null, ys)

abbrev pub by_cells : List Cell → List Cell → Standing
by_cells old new =
    if are_same_cells old (take (length old) new) then (if nat_lt (length old) (length new) then Longer (length old) else Same) else Other

-- by the cells of all parts, where each part that is held is of the values' kind, names, nullability and metadata aside
abbrev pub standing : Option Forest → Kind → Forest → Standing
standing None k parts = Absent
standing (Some held) k parts = if each_of k (kinds_each held) then by_cells (joined (cells_each held)) (joined (cells_each parts)) else Other

-- whether values that stand so are put under the id: they are, or they are there already, or may not be
abbrev pub allowed : Bool → Bool → Standing → Option Bool
allowed fixed deltas Absent = Some true
allowed fixed deltas Same = Some false
allowed fixed true (Longer n) = Some true
allowed true false (Longer n) = None
allowed false false (Longer n) = Some true
allowed true deltas Other = None
allowed false deltas Other = Some true

-- from which cell on they are new, where they are sent as a delta
abbrev pub delta_start : Bool → Standing → Option ℕ
delta_start true (Longer n) = Some n
delta_start deltas s = None
