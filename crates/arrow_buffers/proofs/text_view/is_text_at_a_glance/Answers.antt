use Rattle.std.proofs.Common.{◌≡◌, ◌+◌, ◌≤◌, ◌<◌, length, refl, sym, ap, ◌∙◌, arith}
use Rattle.arrow_spec.specs.Arrays.{u32_of}
use Rattle.arrow_buffers.specs.Views.{buffer_at}
use Rattle.arrow_buffers.proofs.Views.{leads, buffer_read}
use Rattle.arrow_buffers.proofs.TextViews.{short_ascii, long_text}
use Rattle.arrow_buffers.proofs.text_view.is_text_at_a_glance.Goals as goal

pub returns-then-length-le-SHORT : goal.returns-then-length-le-SHORT
returns-then-length-le-SHORT c = λ t.
    let short : u32_of c.args.view.now 0 ≤ 12 = omega (arith, c.number_at-length.ensures.number) in
    short_ascii c.args.buffers.now c.args.view.now short (c.is_ascii.ensures t)

pub bounds-buffers-number : goal.bounds-buffers-number
bounds-buffers-number c =
    let long : 12 < u32_of c.args.view.now 0 = omega (arith, c.number_at-length.ensures.number) in
    omega (arith, c.number_at-number.ensures.number, (leads c.args.buffers.now c.args.view.now c.requires.good long).number)

pub is_boundary-requires : goal.is_boundary-requires
is_boundary-requires c =
    let view = c.args.view.now in
    let long : 12 < u32_of view 0 = omega (arith, c.number_at-length.ensures.number) in
    let l = leads c.args.buffers.now view c.requires.good long in
    let n : c.number_at-number.result < length c.args.buffers.now = omega (arith, c.number_at-number.ensures.number, l.number) in
    let b : c.as_slice-buffer.result.now ≡ buffer_at c.args.buffers.now (u32_of view 8) = buffer_read c.args.buffers.now c.number_at-number.result (u32_of view 8) c.index-buffers-number.result c.as_slice-buffer.result.now c.number_at-number.ensures.number n c.index-buffers-number.is c.as_slice-buffer.ensures in
    omega (arith, ap length b, c.number_at-from.ensures.number, l.inside)

pub is_boundary-requires-2 : goal.is_boundary-requires-2
is_boundary-requires-2 c =
    let view = c.args.view.now in
    let long : 12 < u32_of view 0 = omega (arith, c.number_at-length.ensures.number) in
    let l = leads c.args.buffers.now view c.requires.good long in
    let n : c.number_at-number.result < length c.args.buffers.now = omega (arith, c.number_at-number.ensures.number, l.number) in
    let b : c.as_slice-buffer.result.now ≡ buffer_at c.args.buffers.now (u32_of view 8) = buffer_read c.args.buffers.now c.number_at-number.result (u32_of view 8) c.index-buffers-number.result c.as_slice-buffer.result.now c.number_at-number.ensures.number n c.index-buffers-number.is c.as_slice-buffer.ensures in
    omega (arith, ap length b, c.number_at-from.ensures.number, c.number_at-length.ensures.number, l.inside)

pub returns : goal.returns
returns c = λ t.
    let view = c.args.view.now in
    let long : 12 < u32_of view 0 = omega (arith, c.number_at-length.ensures.number) in
    let l = leads c.args.buffers.now view c.requires.good long in
    let n : c.number_at-number.result < length c.args.buffers.now = omega (arith, c.number_at-number.ensures.number, l.number) in
    let b : c.as_slice-buffer.result.now ≡ buffer_at c.args.buffers.now (u32_of view 8) = buffer_read c.args.buffers.now c.number_at-number.result (u32_of view 8) c.index-buffers-number.result c.as_slice-buffer.result.now c.number_at-number.ensures.number n c.index-buffers-number.is c.as_slice-buffer.ensures in
    long_text c.args.buffers.now view c.as_slice-buffer.result.now c.number_at-from.result (c.number_at-from.result + c.number_at-length.result) long b c.number_at-from.ensures.number (omega (arith, c.number_at-from.ensures.number, c.number_at-length.ensures.number))
    (c.requires.texts c.if-not-are_texts.false (u32_of view 8) l.number) (c.is_boundary.ensures c.if-not-is_boundary.false) (c.is_boundary-2.ensures t)
