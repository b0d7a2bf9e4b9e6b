use Rattle.std.proofs.Common.{true, sym, ap, ◌∙◌}
use Rattle.std.specs.Str.{is_utf8}
use Rattle.arrow_buffers.specs.Views.{view_bytes, is_good_view}
use Rattle.arrow_buffers.proofs.TextViews.{no_good, good_text}
use Rattle.view_types.specs.Tops.{top_in}
use Rattle.ipc_view.specs.Layouts.{buffers_in}
use Rattle.ipc_view.proofs.text_views.is_text_view.Goals as goal

pub returns-then-not-is_good_view : goal.returns-then-not-is_good_view
returns-then-not-is_good_view c =
    let bufs = buffers_in (top_in c.args.parts.now) in
    no_good (is_good_view bufs c.args.view.now) (is_utf8 (view_bytes bufs c.args.view.now)) (sym c.is_good_view.ensures ∙ c.if-not-is_good_view.true)

pub returns-then-is_text_at_a_glance : goal.returns-then-is_text_at_a_glance
returns-then-is_text_at_a_glance c =
    let bufs = buffers_in (top_in c.args.parts.now) in
    good_text (is_good_view bufs c.args.view.now) (is_utf8 (view_bytes bufs c.args.view.now)) true (sym c.is_good_view.ensures ∙ c.if-not-is_good_view.false) (sym (c.is_text_at_a_glance.ensures c.if-is_text_at_a_glance.true))

pub returns : goal.returns
returns c =
    let bufs = buffers_in (top_in c.args.parts.now) in
    good_text (is_good_view bufs c.args.view.now) (is_utf8 (view_bytes bufs c.args.view.now)) c.leads_to_text.result (sym c.is_good_view.ensures ∙ c.if-not-is_good_view.false) c.leads_to_text.ensures
