use Rattle.std.proofs.Common.{◌∙◌, ap, length}
use Rattle.std.specs.Option.{option_map}
use Rattle.arrow_types.specs.KindOf.{kind_of}
use Rattle.std.specs.List.{flat_map}
use Rattle.arrow_buffers.specs.Layouts.{binary_size}
use Rattle.arrow_buffers.specs.Leaf.{fixed_fault, fixed_row, fixed_rows}
use Rattle.array_filter.specs.Rows.{taken}
use Rattle.array_filter.specs.Runs.{rows_in_runs}
use Rattle.array_filter.specs.Taken.{fixed_taken}
use Rattle.array_filter.proofs.LeafTaken.{fixed_fault-taken}
use Rattle.array_filter.proofs.Made.{leaf_of, leaf_same, refused}
use Rattle.array_filter.proofs.RunLaws.{climb_below}
use Rattle.array_filter.proofs.RunSteps.{bytes_within, climb_as}
use Rattle.array_filter.proofs.leaves.take_fixed.Goals as goal

pub take_rows-requires : goal.take_rows-requires
take_rows-requires c =
    bytes_within c.size.result (binary_size c.args.array.now.kind) c.args.runs.now (length c.args.array.now.values) (length c.values.result.now) c.size.ensures.size c.size.ensures.above (ap length c.values.ensures) c.requires

pub take_validity-requires-clause-climb : goal.take_validity-requires-clause-climb
take_validity-requires-clause-climb c = climb_as c.args.runs.now (fixed_rows c.args.array.now) c.len-held.result c.len-held.ensures.rows c.requires

pub unreachable-requires : goal.unreachable-requires
unreachable-requires c =
    let f = c.args.array.now in
    let rows = rows_in_runs c.args.runs.now in
    refused fixed_fault (leaf_of (kind_of c.in_ok-dtype.dtype) c.in_ok-values.values c.in_ok-validity.validity) (fixed_taken rows f) c.in-Err.field-0
    (leaf_same (kind_of c.in_ok-dtype.dtype) f.kind c.in_ok-values.values (flat_map (fixed_row (binary_size f.kind) f.values) rows) c.in_ok-validity.validity (option_map (taken rows) f.validity)
    (c.in_ok-dtype.ensures ∙ c.dtype.ensures)
    (c.in_ok-values.ensures ∙ ap (λ n. flat_map (fixed_row n c.values.result.now) rows) c.size.ensures.size ∙ ap (λ xs. flat_map (fixed_row (binary_size f.kind) xs) rows) c.values.ensures)
    (c.in_ok-validity.ensures ∙ ap (option_map (taken rows)) c.validity.ensures.bits))
    (fixed_fault-taken rows f c.len-held.ensures.sound (climb_below 0 c.args.runs.now (fixed_rows f) c.requires))
    c.in-Err.ensures.err

pub returns : goal.returns
returns c =
    let f = c.args.array.now in
    let rows = rows_in_runs c.args.runs.now in
    c.in-Ok.ensures.ok
    ∙ leaf_same (kind_of c.in_ok-dtype.dtype) f.kind c.in_ok-values.values (flat_map (fixed_row (binary_size f.kind) f.values) rows) c.in_ok-validity.validity (option_map (taken rows) f.validity)
    (c.in_ok-dtype.ensures ∙ c.dtype.ensures)
    (c.in_ok-values.ensures ∙ ap (λ n. flat_map (fixed_row n c.values.result.now) rows) c.size.ensures.size ∙ ap (λ xs. flat_map (fixed_row (binary_size f.kind) xs) rows) c.values.ensures)
    (c.in_ok-validity.ensures ∙ ap (option_map (taken rows)) c.validity.ensures.bits)
