use Rattle.std.proofs.Common.{◌≡◌, ◌∙◌, sym, ap, length, arith}
use Rattle.std.specs.Option.{option_map}
use Rattle.arrow_types.specs.KindOf.{kind_of}
use Rattle.arrow_types.specs.Physical.{physical_of}
use Rattle.std.specs.List.{flat_map}
use Rattle.std.proofs.Common.{refl}
use Rattle.arrow_buffers.specs.Layouts.{is_view}
use Rattle.arrow_buffers.specs.Views.{view_at, view_fault, view_rows}
use Rattle.arrow_buffers.proofs.ViewParts.{view_sound}
use Rattle.array_filter.specs.Rows.{taken}
use Rattle.array_filter.specs.Runs.{rows_in_runs}
use Rattle.array_filter.specs.Taken.{views_taken}
use Rattle.array_filter.proofs.Kept.{if_kept}
use Rattle.array_filter.proofs.LeafTaken.{view_fault-taken}
use Rattle.array_filter.proofs.Made.{refused, views_of, views_same}
use Rattle.array_filter.proofs.RunLaws.{climb_below}
use Rattle.array_filter.proofs.RunSteps.{bytes_within, climb_as}
use Rattle.array_filter.proofs.Whole.{whole, whole_views}
use Rattle.array_filter.proofs.leaves.take_views.Goals as goal

pub returns-then-is_one : goal.returns-then-is_one
returns-then-is_one g c =
    let p = c.args.array.now in
    let runs = c.args.runs.now in
    let is_text = g.V.ViewType.IS_TEXT in
    let s = (view_sound is_text (is_view is_text (physical_of p.kind)) p c.len-held.ensures.sound).seen in
    let rows : runs ≡ whole (view_rows p.views) = c.is_one.ensures c.if-is_one.true ∙ ap whole c.len-held.ensures.rows in
    if_kept c.try_clone.result (λ a. a ≡ p) (λ a. a ≡ views_taken (rows_in_runs runs) p) (λ a e. e ∙ sym (whole_views p runs s rows)) c.try_clone.ensures

pub take_rows-requires : goal.take_rows-requires
take_rows-requires g c = bytes_within 16 16 c.args.runs.now (length c.args.array.now.views) (length c.views.result.now) refl (omega arith) (ap length c.views.ensures) c.requires

pub take_validity-requires-clause-climb : goal.take_validity-requires-clause-climb
take_validity-requires-clause-climb g c = climb_as c.args.runs.now (view_rows c.args.array.now.views) c.len-held.result c.len-held.ensures.rows c.requires

pub unreachable-requires : goal.unreachable-requires
unreachable-requires g c =
    let p = c.args.array.now in
    let rows = rows_in_runs c.args.runs.now in
    let is_text = g.V.ViewType.IS_TEXT in
    refused (λ x. view_fault is_text (is_view is_text (physical_of x.kind)) x) (views_of (kind_of c.in_ok-dtype.dtype) c.in_ok-views.views c.in_ok-buffers.buffers.items c.in_ok-validity.validity) (views_taken rows p) c.in-Err.field-0
    (views_same (kind_of c.in_ok-dtype.dtype) p.kind c.in_ok-views.views (flat_map (view_at p.views) rows) c.in_ok-buffers.buffers.items p.buffers c.in_ok-validity.validity (option_map (taken rows) p.validity)
    (c.in_ok-dtype.ensures ∙ c.dtype.ensures)
    (c.in_ok-views.ensures ∙ ap (λ xs. flat_map (view_at xs) rows) c.views.ensures)
    (c.in_ok-buffers.ensures ∙ c.data_buffers.ensures)
    (c.in_ok-validity.ensures ∙ ap (option_map (taken rows)) c.validity.ensures.bits))
    (view_fault-taken is_text (is_view is_text (physical_of p.kind)) rows p c.len-held.ensures.sound (climb_below 0 c.args.runs.now (view_rows p.views) c.requires))
    c.in-Err.ensures.err

pub returns : goal.returns
returns g c =
    let p = c.args.array.now in
    let rows = rows_in_runs c.args.runs.now in
    c.in-Ok.ensures.ok
    ∙ views_same (kind_of c.in_ok-dtype.dtype) p.kind c.in_ok-views.views (flat_map (view_at p.views) rows) c.in_ok-buffers.buffers.items p.buffers c.in_ok-validity.validity (option_map (taken rows) p.validity)
    (c.in_ok-dtype.ensures ∙ c.dtype.ensures)
    (c.in_ok-views.ensures ∙ ap (λ xs. flat_map (view_at xs) rows) c.views.ensures)
    (c.in_ok-buffers.ensures ∙ c.data_buffers.ensures)
    (c.in_ok-validity.ensures ∙ ap (option_map (taken rows)) c.validity.ensures.bits)
