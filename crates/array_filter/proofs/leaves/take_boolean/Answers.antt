use Rattle.std.proofs.Common.{◌∙◌, ap, length}
use Rattle.std.specs.Option.{option_map}
use Rattle.arrow_types.specs.KindOf.{kind_of}
use Rattle.arrow_types.specs.Physical.{physical_of}
use Rattle.arrow_buffers.specs.Leaf.{leaf_fault}
use Rattle.arrow_buffers.specs.Layouts.{is_boolean}
use Rattle.arrow_arrays.proofs.NumberParts.{leaf_suits}
use Rattle.array_filter.specs.Rows.{taken}
use Rattle.array_filter.specs.Runs.{rows_in_runs}
use Rattle.array_filter.specs.Taken.{leaf_taken}
use Rattle.array_filter.proofs.LeafTaken.{values_fault}
use Rattle.array_filter.proofs.Made.{leaf_of, leaf_same, refused}
use Rattle.array_filter.proofs.RunLaws.{climb_below}
use Rattle.array_filter.proofs.RunSteps.{climb_as}
use Rattle.array_filter.proofs.leaves.take_boolean.Goals as goal

pub take_bits-requires : goal.take_bits-requires
take_bits-requires c = climb_as c.args.runs.now (length c.args.array.now.values) (length c.values.result.now) (ap length c.values.ensures) c.requires

pub take_validity-requires-clause-climb : goal.take_validity-requires-clause-climb
take_validity-requires-clause-climb c = climb_as c.args.runs.now (length c.args.array.now.values) c.len.result c.len.ensures.values c.requires

pub unreachable-requires : goal.unreachable-requires
unreachable-requires c =
    let f = c.args.array.now in
    let rows = rows_in_runs c.args.runs.now in
    let s = is_boolean (physical_of f.kind) in
    refused (λ x. leaf_fault (is_boolean (physical_of x.kind)) (length x.values) x.validity) (leaf_of (kind_of c.in_ok-dtype.dtype) c.in_ok-values.values c.in_ok-validity.validity) (leaf_taken rows f) c.in-Err.field-0
    (leaf_same (kind_of c.in_ok-dtype.dtype) f.kind c.in_ok-values.values (taken rows f.values) c.in_ok-validity.validity (option_map (taken rows) f.validity)
    (c.in_ok-dtype.ensures ∙ c.dtype.ensures) (c.in_ok-values.ensures ∙ ap (taken rows) c.values.ensures) (c.in_ok-validity.ensures ∙ ap (option_map (taken rows)) c.validity.ensures.bits))
    (values_fault s s rows f c.len.ensures.sound (leaf_suits s (length f.values) f.validity c.len.ensures.sound) (climb_below 0 c.args.runs.now (length f.values) c.requires))
    c.in-Err.ensures.err

pub returns : goal.returns
returns c =
    let f = c.args.array.now in
    let rows = rows_in_runs c.args.runs.now in
    c.in-Ok.ensures.ok
    ∙ leaf_same (kind_of c.in_ok-dtype.dtype) f.kind c.in_ok-values.values (taken rows f.values) c.in_ok-validity.validity (option_map (taken rows) f.validity)
    (c.in_ok-dtype.ensures ∙ c.dtype.ensures) (c.in_ok-values.ensures ∙ ap (taken rows) c.values.ensures) (c.in_ok-validity.ensures ∙ ap (option_map (taken rows)) c.validity.ensures.bits)
