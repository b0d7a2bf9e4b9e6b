-- Columns that were read for a projection, put in the order asked.
use Rattle.std.proofs.Common.{refl, subst, sym}
use Rattle.ipc_files.specs.Below.{StandAt}
use Rattle.ipc_files.proofs.Below.{applicable, applied_arrays, applied_schema}
use Rattle.laws_reading.specs.ProjectionLaws.{ProjectedBatchIsAsked, ProjectionMayBeApplied}

pub projection_may_be_applied : ProjectionMayBeApplied
projection_may_be_applied schema asked p old h is = applicable schema asked p h schema old.schema refl is

pub projected_batch_is_asked : ProjectedBatchIsAsked
projected_batch_is_asked schema asked p all old new h many fields columns order =
    let same = applied_schema schema asked p h old new fields order in
    (same, subst (StandAt schema asked) (sym same) h.fields, applied_arrays schema asked p h all old new many columns order)
