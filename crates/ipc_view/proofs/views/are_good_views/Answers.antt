use Rattle.std.proofs.Common.{sym, ap, ◌∙◌, arith}
use Rattle.std.specs.Prelude.{not}
use Rattle.arrow_buffers.specs.Views.{is_good_view}
use Rattle.arrow_buffers.proofs.Rows.{bad_here, some_at}
use Rattle.view_types.specs.Tops.{top_in}
use Rattle.view_types.specs.Views.{bits_in, is_set, view_in}
use Rattle.ipc_view.specs.Layouts.{buffers_in, is_bad_view}
use Rattle.ipc_view.proofs.Answered.{is_unset_false}
use Rattle.ipc_view.proofs.views.are_good_views.Goals as goal

pub returns-then-not-is_good_view : goal.returns-then-not-is_good_view
returns-then-not-is_good_view c =
    let t = top_in c.args.parts.now in
    let set = is_unset_false (is_set (bits_in t.input t.validity) c.loop-row.row) _ c.is_unset.ensures c.if-not-is_unset.true in
    let here = bad_here (is_set (bits_in t.input t.validity) c.loop-row.row) (is_good_view (buffers_in t) (view_in t c.loop-row.row)) set (ap (is_good_view (buffers_in t)) (sym c.view.ensures.view) ∙ sym c.is_good_view.ensures ∙ c.if-not-is_good_view.true) in
    ap not (sym (some_at (is_bad_view t) t.rows c.loop-row.row (omega arith) here))
