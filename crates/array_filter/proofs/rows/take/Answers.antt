use Rattle.std.proofs.Common.{◌≡◌, ◌∙◌, ap, subst, sym}
use Rattle.arrow_arrays.specs.Parts.{cells_in, kind_in, rows_in}
use Rattle.arrow_arrays.specs.PartsOf.{parts_of}
use Rattle.array_filter.specs.Rows.{Rise, taken}
use Rattle.array_filter.specs.Runs.{Climb, rows_in_runs}
use Rattle.array_filter.specs.Taken.{rows_taken}
use Rattle.array_filter.proofs.Kept.{if_kept, kept_cells, kept_kind}
use Rattle.array_filter.proofs.Marked.{risen_are_below}
use Rattle.array_filter.proofs.RunSteps.{climb_as}
use Rattle.array_filter.proofs.rows.take.Goals as goal

pub runs_of_rows-requires : goal.runs_of_rows-requires
runs_of_rows-requires c = subst (λ n. Rise 0 c.args.rows.now n) (sym c.len.ensures.rows) c.requires

pub take_runs-requires : goal.take_runs-requires
take_runs-requires c = subst (λ rs. Climb 0 rs (rows_in (parts_of c.args.array.now))) (sym c.as_slice.ensures.value) (climb_as c.in_ok-runs.runs.items c.len.result (rows_in (parts_of c.args.array.now)) (sym c.len.ensures.rows) c.in_ok-runs.ensures.climb)

pub returns-clause-parts : goal.returns-clause-parts
returns-clause-parts c =
    let p = parts_of c.args.array.now in
    if_kept c.take_runs.result (λ a. parts_of a ≡ rows_taken (rows_in_runs c.as_slice.result.now) p) (λ a. parts_of a ≡ rows_taken c.args.rows.now p)
    (λ a h. h ∙ ap (λ rs. rows_taken (rows_in_runs rs) p) c.as_slice.ensures.value ∙ ap (λ rows. rows_taken rows p) c.in_ok-runs.ensures.rows) c.take_runs.ensures

pub returns-clause-cells : goal.returns-clause-cells
returns-clause-cells c =
    let p = parts_of c.args.array.now in
    let rows = c.args.rows.now in
    if_kept c.take_runs.result (λ a. parts_of a ≡ rows_taken (rows_in_runs c.as_slice.result.now) p) (λ a. cells_in (parts_of a) ≡ taken rows (cells_in p))
    (λ a h. kept_cells rows p (parts_of a) c.len.ensures.sound (risen_are_below 0 rows (rows_in p) c.requires) (h ∙ ap (λ rs. rows_taken (rows_in_runs rs) p) c.as_slice.ensures.value ∙ ap (λ ks. rows_taken ks p) c.in_ok-runs.ensures.rows)) c.take_runs.ensures

pub returns-clause-kind : goal.returns-clause-kind
returns-clause-kind c =
    let p = parts_of c.args.array.now in
    let rows = c.args.rows.now in
    if_kept c.take_runs.result (λ a. parts_of a ≡ rows_taken (rows_in_runs c.as_slice.result.now) p) (λ a. kind_in (parts_of a) ≡ kind_in p)
    (λ a h. kept_kind rows p (parts_of a) c.len.ensures.sound (risen_are_below 0 rows (rows_in p) c.requires) (h ∙ ap (λ rs. rows_taken (rows_in_runs rs) p) c.as_slice.ensures.value ∙ ap (λ ks. rows_taken ks p) c.in_ok-runs.ensures.rows)) c.take_runs.ensures
