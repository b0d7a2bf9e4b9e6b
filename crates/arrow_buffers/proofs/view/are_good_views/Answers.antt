use Rattle.std.proofs.Common.{◌≡◌, ℕ, ◌&&◌, Bool, sym, ap, ◌∙◌, arith}
use Rattle.std.specs.Prelude.{not}
use Rattle.arrow_spec.specs.Faults.{some_row}
use Rattle.arrow_buffers.specs.Rows.{is_valid}
use Rattle.arrow_buffers.specs.Views.{is_good_view, view_at, view_rows, has_bad_view}
use Rattle.arrow_buffers.proofs.Rows.{some_at, bad_here}
use Rattle.arrow_buffers.proofs.view.are_good_views.Goals as goal

pub returns-then-not-is_good_view : goal.returns-then-not-is_good_view
unfolding has_bad_view
returns-then-not-is_good_view c =
    let bad : ℕ → Bool = λ row. is_valid c.args.validity.now row && not (is_good_view c.args.buffers.now (view_at c.args.views.now row)) in
    let here = bad_here (is_valid c.args.validity.now c.loop-row.row) (is_good_view c.args.buffers.now (view_at c.args.views.now c.loop-row.row)) (sym c.validity_at.ensures ∙ c.if-validity_at.true) (ap (is_good_view c.args.buffers.now) (sym c.view_at.ensures.view) ∙ sym c.is_good_view.ensures ∙ c.if-not-is_good_view.true) in
    ap not (sym (some_at bad (view_rows c.args.views.now) c.loop-row.row (omega arith) here))

pub returns : goal.returns
unfolding has_bad_view
returns c =
    let bad : ℕ → Bool = λ row. is_valid c.args.validity.now row && not (is_good_view c.args.buffers.now (view_at c.args.views.now row)) in
    let all : c.loop-row.row ≡ view_rows c.args.views.now = omega arith in
    ap not (sym c.loop-row.invariant ∙ ap (some_row bad) all)
