-- What holds of columns that are asked for in any order, read in the schema's order and then put in the order asked.
use Rattle.std.specs.Prelude.{◌≡◌, ℕ, List, length, Some}
use Rattle.std.specs.Rc.{rc_value}
use Rattle.arrow_types.specs.Schemas.{Keyed}
use Rattle.arrow_arrays.specs.Batches.{Batch}
use Rattle.arrow_arrays.specs.Parts.{Parts}
use Rattle.ipc_files.specs.Below.{chosen, IsPermutation, StandAt, IsProjection, IsReordered, ProjectionInfo}

-- The map of a projection may put a batch of the fields that are read for it in order.
abbrev pub ProjectionMayBeApplied : Type 0
ProjectionMayBeApplied = (schema : List Keyed) (asked : List ℕ) (p : ProjectionInfo) (old : Batch) → IsProjection schema asked p
    → old.schema ≡ chosen (Some p.columns.items) 0 schema → IsPermutation p.map (length old.schema)

-- The batch then has the fields and the columns that are asked for, of all, in the order asked.
abbrev pub ProjectedBatchIsAsked : Type 0
ProjectedBatchIsAsked = (schema : List Keyed) (asked : List ℕ) (p : ProjectionInfo) (all : List Parts) (old new : Batch)
    → IsProjection schema asked p → length all ≡ length schema → old.schema ≡ chosen (Some p.columns.items) 0 schema
    → old.arrays ≡ chosen (Some p.columns.items) 0 all → IsReordered p.map old new
    → (new.schema ≡ rc_value p.schema) × StandAt schema asked new.schema × StandAt all asked new.arrays
