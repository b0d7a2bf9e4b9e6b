use Rattle.std.proofs.Common.{◌≡◌, ℕ, ◌<◌, true, length, refl, sym, ap, ◌∙◌, arith}
use Rattle.std.specs.Str.{is_utf8}
use borrow.Author.Count.{below_more}
use Rattle.arrow_buffers.specs.Views.{buffer_at}
use Rattle.arrow_buffers.proofs.Views.{buffer_read}
use Rattle.arrow_buffers.proofs.text_view.are_text_buffers.Goals as goal

pub loop-buffer-preserved : goal.loop-buffer-preserved
loop-buffer-preserved c =
    let buffers = c.args.buffers.now in
    let i = c.loop-buffer.buffer-index in
    let below : i < length buffers = omega arith in
    let read : c.as_slice.result.now ≡ buffer_at buffers i = buffer_read buffers i i c.buffer-item.result c.as_slice.result.now refl below c.buffer-item.is c.as_slice.ensures in
    below_more (λ k. is_utf8 (buffer_at buffers k) ≡ true) i c.loop-buffer.invariant (ap is_utf8 (sym read) ∙ sym c.is_text.ensures ∙ c.if-not-is_text.false)

pub returns : goal.returns
returns c = λ t number h. c.loop-buffer.invariant number (omega arith)
