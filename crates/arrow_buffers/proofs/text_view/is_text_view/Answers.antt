use Rattle.std.proofs.Common.{true, sym, ap, ◌∙◌}
use Rattle.std.specs.Str.{is_utf8}
use Rattle.arrow_buffers.specs.Views.{view_bytes, is_good_view}
use Rattle.arrow_buffers.proofs.TextViews.{no_good, good_text}
use Rattle.arrow_buffers.proofs.text_view.is_text_view.Goals as goal

pub returns-then-not-is_good_view : goal.returns-then-not-is_good_view
returns-then-not-is_good_view c = no_good (is_good_view c.args.buffers.now c.args.view.now) (is_utf8 (view_bytes c.args.buffers.now c.args.view.now)) (sym c.is_good_view.ensures ∙ c.if-not-is_good_view.true)

pub returns-then-is_text_at_a_glance : goal.returns-then-is_text_at_a_glance
returns-then-is_text_at_a_glance c =
    good_text (is_good_view c.args.buffers.now c.args.view.now) (is_utf8 (view_bytes c.args.buffers.now c.args.view.now)) true (sym c.is_good_view.ensures ∙ c.if-not-is_good_view.false) (sym (c.is_text_at_a_glance.ensures c.if-is_text_at_a_glance.true))

pub returns : goal.returns
returns c =
    good_text (is_good_view c.args.buffers.now c.args.view.now) (is_utf8 (view_bytes c.args.buffers.now c.args.view.now)) c.is_text.result (sym c.is_good_view.ensures ∙ c.if-not-is_good_view.false) (c.is_text.ensures ∙ ap is_utf8 c.bytes_in.ensures)
