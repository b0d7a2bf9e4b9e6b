use Rattle.std.proofs.Common.{◌≡◌, ℕ, ◌&&◌, Bool, true, false, sym, ap, ◌∙◌, arith}
use Rattle.std.specs.Prelude.{not}
use Rattle.arrow_spec.specs.Faults.{some_row}
use Rattle.arrow_buffers.specs.Rows.{is_valid}
use Rattle.arrow_buffers.specs.Views.{is_text_view, view_at, view_rows}
use Rattle.arrow_buffers.proofs.Rows.{some_at, bad_here}
use Rattle.arrow_buffers.proofs.TextViews.{both_tests}
use Rattle.arrow_buffers.proofs.text_view.are_text_views.Goals as goal

pub returns-then-not-is_text_view : goal.returns-then-not-is_text_view
returns-then-not-is_text_view c =
    let bad : ℕ → Bool = λ row. is_valid c.args.validity.now row && not (is_text_view c.args.buffers.now (view_at c.args.views.now row)) in
    let here = bad_here (is_valid c.args.validity.now c.loop-row.row) (is_text_view c.args.buffers.now (view_at c.args.views.now c.loop-row.row)) (sym c.validity_at.ensures ∙ c.if-validity_at.true) (ap (is_text_view c.args.buffers.now) (sym c.view_at.ensures.view) ∙ sym c.is_text_view.ensures ∙ c.if-not-is_text_view.true) in
    both_tests c.args.views.now c.args.buffers.now c.args.validity.now true (some_at bad (view_rows c.args.views.now) c.loop-row.row (omega arith) here)

pub returns : goal.returns
returns c =
    let bad : ℕ → Bool = λ row. is_valid c.args.validity.now row && not (is_text_view c.args.buffers.now (view_at c.args.views.now row)) in
    let all : c.loop-row.row ≡ view_rows c.args.views.now = omega arith in
    both_tests c.args.views.now c.args.buffers.now c.args.validity.now false (ap (some_row bad) (sym all) ∙ c.loop-row.invariant)
