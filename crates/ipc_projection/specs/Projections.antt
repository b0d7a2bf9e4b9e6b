-- Columns that are asked for in any order: what is read for them, and what their batches are.
use Rattle.std.specs.Prelude.{◌≡◌, ℕ, List, length, slice_get, Option, None, Some, true}
use Rattle.std.specs.declared.alloc.Global.{Global}
use Rattle.std.specs.declared.vec.Vec.{Vec}
use Rattle.std.specs.BTreeMap.{BTreeMap}
use Rattle.std.specs.Rc.{rc_value}
use Rattle.arrow_spec.specs.Columns.{stands_in}
use Rattle.arrow_types.specs.Schemas.{Keyed}
use Rattle.arrow_arrays.specs.Batches.{Batch}
use Rattle.ipc_read_laws.specs.Projection.{do_rise, are_below}
use Rattle.ipc_projection.specs.Places.{IsPermutation, StandAt, entry}
use Rattle.ipc_projection.specs.declared.projection.ProjectionInfo.{ProjectionInfo}

-- what is read for columns that are asked for: they, in the schema's order, the map from a place in that order to the place asked, and their fields as asked
pub record IsProjection (schema : List Keyed) (asked : List ℕ) (p : ProjectionInfo) : Type 0 where
  pub rising : do_rise 0 p.columns.items ≡ true
  pub below : are_below (length schema) p.columns.items ≡ true
  pub same : (c : ℕ) → stands_in p.columns.items c ≡ stands_in asked c
  pub count : length p.columns.items ≡ length asked
  pub places : (j c : ℕ) → slice_get asked j ≡ Some c → (i : ℕ) × (slice_get p.columns.items i ≡ Some c) × (entry p.map i ≡ Some j)
  pub permutes : IsPermutation p.map (length asked)
  pub fields : StandAt schema asked (rc_value p.schema)

-- the numbers that are asked for
abbrev pub numbers_in : Option (Vec ℕ Global) → Option (List ℕ)
numbers_in None = None
numbers_in (Some columns) = Some columns.items

-- a projection of the numbers that are asked for, and none where all are
abbrev pub MayProject : List Keyed → Option (List ℕ) → Option ProjectionInfo → Type 0
MayProject s None None = Unit {0}
MayProject s None (Some p) = ⊥
MayProject s (Some columns) None = ⊥
MayProject s (Some columns) (Some p) = IsProjection s columns p

-- the same columns, map and fields
pub record IsSame (p q : ProjectionInfo) : Type 0 where
  pub columns : q.columns.items ≡ p.columns.items
  pub map : (i : ℕ) → entry q.map i ≡ entry p.map i
  pub schema : rc_value q.schema ≡ rc_value p.schema

-- a batch with its columns where a map leads them, and its pairs
pub record IsReordered (m : BTreeMap ℕ ℕ) (old new : Batch) : Type 0 where
  pub height : new.height ≡ old.height
  pub width : length new.arrays ≡ length old.arrays
  pub fields : length new.schema ≡ length old.schema
  pub arrays : (i j : ℕ) → entry m i ≡ Some j → slice_get new.arrays j ≡ slice_get old.arrays i
  pub schema : (i j : ℕ) → entry m i ≡ Some j → slice_get new.schema j ≡ slice_get old.schema i
  pub custom : new.custom ≡ old.custom
