use Rattle.std.proofs.Common.{◌≡◌, ◌∙◌, ap, subst, sym}
use Rattle.arrow_arrays.specs.Parts.{cells_in, kind_in, rows_in}
use Rattle.arrow_arrays.specs.PartsOf.{parts_of}
use Rattle.array_filter.specs.Rows.{AreBelow, marked, marked_from}
use Rattle.array_filter.specs.Runs.{Climb, rows_in_runs}
use Rattle.array_filter.specs.Taken.{rows_taken}
use Rattle.array_filter.proofs.Kept.{if_kept, kept_kind, marked_cells}
use Rattle.array_filter.proofs.RunLaws.{climb_below}
use Rattle.array_filter.proofs.RunSteps.{climb_as}
use Rattle.array_filter.proofs.rows.filter.Goals as goal

pub take_runs-requires : goal.take_runs-requires
take_runs-requires c = subst (λ rs. Climb 0 rs (rows_in (parts_of c.args.array.now))) (sym c.as_slice.ensures.value) (climb_as c.in_ok-runs.runs.items _ (rows_in (parts_of c.args.array.now)) (sym c.requires) c.in_ok-runs.ensures.climb)

pub returns-clause-parts : goal.returns-clause-parts
returns-clause-parts c =
    let p = parts_of c.args.array.now in
    if_kept c.take_runs.result (λ a. parts_of a ≡ rows_taken (rows_in_runs c.as_slice.result.now) p) (λ a. parts_of a ≡ rows_taken (marked_from 0 c.args.marks.now) p)
    (λ a h. h ∙ ap (λ rs. rows_taken (rows_in_runs rs) p) c.as_slice.ensures.value ∙ ap (λ rows. rows_taken rows p) c.in_ok-runs.ensures.rows) c.take_runs.ensures

pub returns-clause-cells : goal.returns-clause-cells
returns-clause-cells c =
    let p = parts_of c.args.array.now in
    let marks = c.args.marks.now in
    let below : AreBelow (rows_in p) (marked_from 0 marks) = subst (λ rows. AreBelow (rows_in p) rows) c.in_ok-runs.ensures.rows (climb_below 0 c.in_ok-runs.runs.items (rows_in p) (climb_as c.in_ok-runs.runs.items _ (rows_in p) (sym c.requires) c.in_ok-runs.ensures.climb)) in
    if_kept c.take_runs.result (λ a. parts_of a ≡ rows_taken (rows_in_runs c.as_slice.result.now) p) (λ a. cells_in (parts_of a) ≡ marked marks (cells_in p))
    (λ a h. marked_cells marks p (parts_of a) c.len-held.ensures.sound below c.requires (h ∙ ap (λ rs. rows_taken (rows_in_runs rs) p) c.as_slice.ensures.value ∙ ap (λ rows. rows_taken rows p) c.in_ok-runs.ensures.rows)) c.take_runs.ensures

pub returns-clause-kind : goal.returns-clause-kind
returns-clause-kind c =
    let p = parts_of c.args.array.now in
    let marks = c.args.marks.now in
    let below : AreBelow (rows_in p) (marked_from 0 marks) = subst (λ rows. AreBelow (rows_in p) rows) c.in_ok-runs.ensures.rows (climb_below 0 c.in_ok-runs.runs.items (rows_in p) (climb_as c.in_ok-runs.runs.items _ (rows_in p) (sym c.requires) c.in_ok-runs.ensures.climb)) in
    if_kept c.take_runs.result (λ a. parts_of a ≡ rows_taken (rows_in_runs c.as_slice.result.now) p) (λ a. kind_in (parts_of a) ≡ kind_in p)
    (λ a h. kept_kind (marked_from 0 marks) p (parts_of a) c.len-held.ensures.sound below (h ∙ ap (λ rs. rows_taken (rows_in_runs rs) p) c.as_slice.ensures.value ∙ ap (λ rows. rows_taken rows p) c.in_ok-runs.ensures.rows)) c.take_runs.ensures
