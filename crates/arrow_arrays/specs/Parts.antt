-- What an array is seen as: the tree of its parts, how many rows it has and what stands in them. (Arrow Columnar Format, "Physical Memory Layout".)
use Rattle.std.specs.Prelude.{ℕ, suc, ◌+◌, List, [], ◌∷◌, Bool, true, false, Option, Some, None}
use Rattle.arrow_spec.specs.Kinds.{Kind}
use Rattle.arrow_spec.specs.Cells.{Cell}
use Rattle.arrow_buffers.specs.declared.error.ArrayError.{ArrayError}
use Rattle.arrow_buffers.specs.Rows.{null_rows}
use Rattle.arrow_arrays.specs.LeafParts.{LeafParts, leaf_kind_in, leaf_rows_in, leaf_validity_in, leaf_null_rows_in, leaf_cells_in, leaf_part_of, leaf_fault_in}
use Rattle.arrow_arrays.specs.Heads.{Head, Cut, whole, run, head_kind, head_rows, head_validity, head_cells, head_part, head_fault, cut_of}

mutual
  pub data Parts : Type 0 where
    -- an array without children
    leaf : LeafParts → Parts
    -- a top, and its children
    nested : Head → Forest → Parts

  pub data Forest : Type 0 where
    none : Forest
    also : Parts → Forest → Forest

abbrev pub forest : List Parts → Forest
forest [] = none
forest (p ∷ ps) = also p (forest ps)

-- the kind of its rows
abbrev pub kind_in : Parts → Kind
kind_in (leaf l) = leaf_kind_in l
kind_in (nested h cs) = head_kind h

-- whether arrays stand in it
abbrev pub has_children : Parts → Bool
has_children (leaf p) = false
has_children (nested h cs) = true

-- how many rows it has
abbrev pub rows_in : Parts → ℕ
rows_in (leaf l) = leaf_rows_in l
rows_in (nested h cs) = head_rows h

-- which rows are valid, where that is given
abbrev pub validity_in : Parts → Option (List Bool)
validity_in (leaf l) = leaf_validity_in l
validity_in (nested h cs) = head_validity h

-- how many rows are null
abbrev pub null_rows_in : Parts → ℕ
null_rows_in (leaf l) = leaf_null_rows_in l
null_rows_in (nested h cs) = null_rows (head_validity h)

-- the kinds of several arrays, and how many rows each has
abbrev pub kinds_each : Forest → List Kind
kinds_each none = []
kinds_each (also p cs) = kind_in p ∷ kinds_each cs

abbrev pub rows_each : Forest → List ℕ
rows_each none = []
rows_each (also p cs) = rows_in p ∷ rows_each cs

-- the cells of its rows
abbrev mutual
  pub cells_in : Parts → List Cell
  cells_in (leaf l) = leaf_cells_in l
  cells_in (nested h cs) = head_cells h (cells_each cs)

  pub cells_each : Forest → List (List Cell)
  cells_each none = []
  cells_each (also p cs) = cells_in p ∷ cells_each cs

-- the rows from a place on, so many of them
abbrev mutual
  pub part_of : ℕ → ℕ → Parts → Parts
  part_of offset rows (leaf l) = leaf (leaf_part_of offset rows l)
  part_of offset rows (nested h cs) = nested (head_part offset rows h) (cut (cut_of offset rows h) cs)

  pub cut : Cut → Forest → Forest
  cut whole cs = cs
  cut (run offset rows) none = none
  cut (run offset rows) (also p cs) = also (part_of offset rows p) (cut (run offset rows) cs)

-- the first of two that is given
abbrev pub either : Option ArrayError → Option ArrayError → Option ArrayError
either None e = e
either (Some d) e = Some d

-- why no array has such parts; none for the parts that arrays have
abbrev mutual
  pub fault_in : Parts → Option ArrayError
  fault_in (leaf l) = leaf_fault_in l
  fault_in (nested h cs) = either (head_fault h (kinds_each cs) (rows_each cs)) (fault_each cs)

  pub fault_each : Forest → Option ArrayError
  fault_each none = None
  fault_each (also p cs) = either (fault_in p) (fault_each cs)

-- how many arrays with children there are in it
abbrev mutual
  pub tree_size : Parts → ℕ
  tree_size (leaf l) = 0
  tree_size (nested h cs) = suc (trees_size cs)

  pub trees_size : Forest → ℕ
  trees_size none = 0
  trees_size (also p cs) = tree_size p + trees_size cs
