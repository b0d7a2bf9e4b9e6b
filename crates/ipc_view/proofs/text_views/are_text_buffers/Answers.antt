use Rattle.std.proofs.Common.{◌≡◌, ℕ, ◌<◌, true, length, refl, sym, ap, ◌∙◌, arith}
use Rattle.std.specs.Str.{is_utf8}
use borrow.Author.Count.{below_more}
use Rattle.arrow_buffers.specs.Views.{buffer_at}
use Rattle.view_types.specs.Tops.{top_in}
use Rattle.ipc_view.specs.Layouts.{buffers_in}
use Rattle.ipc_view.proofs.Viewed.{buffer_lent, count_seen}
use Rattle.ipc_view.proofs.text_views.are_text_buffers.Goals as goal

pub loop-number-preserved : goal.loop-number-preserved
loop-number-preserved c =
    let p = c.args.parts.now in
    let bufs = buffers_in (top_in p) in
    let i = c.loop-number.number in
    let below : i < length p.buffers.items = omega arith in
    let read : c.part_of-buffer.result.now ≡ buffer_at bufs i = buffer_lent p.input.now p.buffers.items i i c.index.result.now c.part_of-buffer.result.now refl below c.index.ensures c.part_of-buffer.ensures.part in
    below_more (λ k. is_utf8 (buffer_at bufs k) ≡ true) i c.loop-number.invariant (ap is_utf8 (sym read) ∙ sym c.is_text.ensures ∙ c.if-not-is_text.false)

pub returns : goal.returns
returns c = λ t number h. c.loop-number.invariant number (omega (arith, count_seen c.args.parts.now.input.now c.args.parts.now.buffers.items))
