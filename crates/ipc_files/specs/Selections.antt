-- Columns of a file that are asked for by their numbers, and how they are read.
use Rattle.std.specs.Prelude.{◌≡◌, ℕ, List, map, Option, None, Some}
use Rattle.std.specs.Rc.{rc_value}
use Rattle.arrow_types.specs.Schemas.{Keyed}
use Rattle.arrow_arrays.specs.Batches.{Batch}
use Rattle.arrow_arrays.specs.Parts.{kind_in}
use Rattle.ipc_read.specs.Batches.{kinds_of}
use Rattle.ipc_projection.specs.Projections.{MayProject}
use Rattle.ipc_projection.specs.declared.projection.ProjectionInfo.{ProjectionInfo}

-- the numbers that are read for a projection
abbrev pub numbers_read : Option ProjectionInfo → Option (List ℕ)
numbers_read None = None
numbers_read (Some p) = Some p.columns.items

-- the fields of the columns, in the order asked
abbrev pub schema_shown : List Keyed → Option ProjectionInfo → List Keyed
schema_shown s None = s
schema_shown s (Some p) = rc_value p.schema

-- a batch has some fields, and columns of their kinds
pub record HasFields (x : Batch) (s : List Keyed) : Type 0 where
  pub schema : x.schema ≡ s
  pub kinds : map kind_in x.arrays ≡ kinds_of s

-- a projection was made for a schema, of whatever numbers
abbrev pub IsMade : List Keyed → Option ProjectionInfo → Type 0
IsMade s p = ∥ ((columns : Option (List ℕ)) × MayProject s columns p) ∥₁
