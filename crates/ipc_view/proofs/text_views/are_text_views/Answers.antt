use Rattle.std.proofs.Common.{◌≡◌, true, false, sym, ap, ◌∙◌, arith}
use Rattle.arrow_spec.specs.Faults.{some_row}
use Rattle.arrow_buffers.specs.Views.{is_text_view}
use Rattle.arrow_buffers.proofs.Rows.{bad_here, some_at}
use Rattle.view_types.specs.Tops.{top_in}
use Rattle.view_types.specs.Views.{bits_in, is_set, view_in}
use Rattle.ipc_view.specs.Layouts.{buffers_in}
use Rattle.ipc_view.proofs.Answered.{is_unset_false}
use Rattle.ipc_view.proofs.TextViews.{both_tests, is_no_good_text}
use Rattle.ipc_view.proofs.text_views.are_text_views.Goals as goal

pub returns-then-not-is_text_view : goal.returns-then-not-is_text_view
returns-then-not-is_text_view c =
    let t = top_in c.args.parts.now in
    let set = is_unset_false (is_set (bits_in t.input t.validity) c.loop-row.row) _ c.is_unset.ensures c.if-not-is_unset.true in
    let here = bad_here (is_set (bits_in t.input t.validity) c.loop-row.row) (is_text_view (buffers_in t) (view_in t c.loop-row.row)) set (ap (is_text_view (buffers_in t)) (sym c.view.ensures.view) ∙ sym c.is_text_view.ensures ∙ c.if-not-is_text_view.true) in
    both_tests t true (some_at (is_no_good_text t) t.rows c.loop-row.row (omega arith) here)

pub returns : goal.returns
returns c =
    let t = top_in c.args.parts.now in
    let all : c.loop-row.row ≡ t.rows = omega arith in
    both_tests t false (ap (some_row (is_no_good_text t)) (sym all) ∙ c.loop-row.invariant)
