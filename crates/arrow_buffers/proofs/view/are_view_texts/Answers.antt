use Rattle.std.proofs.Common.{◌≡◌, ℕ, ◌&&◌, Bool, sym, ap, ◌∙◌, arith}
use Rattle.std.specs.Prelude.{not}
use Rattle.std.proofs.lemmas.Bool.{and_from}
use Rattle.arrow_spec.specs.Faults.{some_row}
use Rattle.arrow_buffers.specs.Rows.{is_valid}
use Rattle.arrow_buffers.specs.Views.{is_no_text_view, view_at, view_rows, has_bad_view_text}
use Rattle.arrow_buffers.proofs.Rows.{some_at}
use Rattle.arrow_buffers.proofs.view.are_view_texts.Goals as goal

pub returns-then-is_no_text : goal.returns-then-is_no_text
unfolding has_bad_view_text
returns-then-is_no_text c =
    let bad : ℕ → Bool = λ row. is_valid c.args.validity.now row && is_no_text_view c.args.buffers.now (view_at c.args.views.now row) in
    let here = and_from (is_valid c.args.validity.now c.loop-row.row) (is_no_text_view c.args.buffers.now (view_at c.args.views.now c.loop-row.row)) (sym c.validity_at.ensures ∙ c.if-validity_at.true) (ap (is_no_text_view c.args.buffers.now) (sym c.view_at.ensures.view) ∙ sym c.is_no_text.ensures ∙ c.if-is_no_text.true) in
    ap not (sym (some_at bad (view_rows c.args.views.now) c.loop-row.row (omega arith) here))

pub returns : goal.returns
unfolding has_bad_view_text
returns c =
    let bad : ℕ → Bool = λ row. is_valid c.args.validity.now row && is_no_text_view c.args.buffers.now (view_at c.args.views.now row) in
    let all : c.loop-row.row ≡ view_rows c.args.views.now = omega arith in
    ap not (sym c.loop-row.invariant ∙ ap (some_row bad) all)
