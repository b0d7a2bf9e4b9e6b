use Rattle.std.proofs.Common.{◌≡◌, ◌≤◌, ◌<◌, length, refl, sym, ap, ◌∙◌, arith}
use Rattle.arrow_spec.specs.Arrays.{u32_of}
use Rattle.arrow_buffers.specs.Views.{buffer_at}
use Rattle.arrow_buffers.proofs.Views.{short_view, long_view, leads, buffer_read, range_bytes}
use Rattle.arrow_buffers.proofs.view.bytes_in.Goals as goal

pub returns-then-length-le-SHORT : goal.returns-then-length-le-SHORT
returns-then-length-le-SHORT c =
    let view = c.args.view.now in
    let short : u32_of view 0 ≤ 12 = omega (arith, c.number_at-length.ensures.number) in
    c.bytes_from.ensures ∙ range_bytes view view 4 4 c.number_at-length.result (u32_of view 0) refl refl c.number_at-length.ensures.number ∙ sym (short_view c.args.buffers.now view short)

pub bounds-buffers-number : goal.bounds-buffers-number
bounds-buffers-number c =
    let long : 12 < u32_of c.args.view.now 0 = omega (arith, c.number_at-length.ensures.number) in
    omega (arith, c.number_at-number.ensures.number, (leads c.args.buffers.now c.args.view.now c.requires.good long).number)

pub bytes_from-requires-2 : goal.bytes_from-requires-2
bytes_from-requires-2 c =
    let view = c.args.view.now in
    let long : 12 < u32_of view 0 = omega (arith, c.number_at-length.ensures.number) in
    let l = leads c.args.buffers.now view c.requires.good long in
    let n : c.number_at-number.result < length c.args.buffers.now = omega (arith, c.number_at-number.ensures.number, l.number) in
    let b : c.as_slice-buffer.result.now ≡ buffer_at c.args.buffers.now (u32_of view 8) = buffer_read c.args.buffers.now c.number_at-number.result (u32_of view 8) c.index-buffers-number.result c.as_slice-buffer.result.now c.number_at-number.ensures.number n c.index-buffers-number.is c.as_slice-buffer.ensures in
    omega (arith, ap length b, c.number_at-from.ensures.number, c.number_at-length.ensures.number, l.inside)

pub returns : goal.returns
returns c =
    let view = c.args.view.now in
    let long : 12 < u32_of view 0 = omega (arith, c.number_at-length.ensures.number) in
    let l = leads c.args.buffers.now view c.requires.good long in
    let n : c.number_at-number.result < length c.args.buffers.now = omega (arith, c.number_at-number.ensures.number, l.number) in
    let b : c.as_slice-buffer.result.now ≡ buffer_at c.args.buffers.now (u32_of view 8) = buffer_read c.args.buffers.now c.number_at-number.result (u32_of view 8) c.index-buffers-number.result c.as_slice-buffer.result.now c.number_at-number.ensures.number n c.index-buffers-number.is c.as_slice-buffer.ensures in
    c.bytes_from-2.ensures ∙ range_bytes c.as_slice-buffer.result.now (buffer_at c.args.buffers.now (u32_of view 8)) c.number_at-from.result (u32_of view 12) c.number_at-length.result (u32_of view 0) b c.number_at-from.ensures.number c.number_at-length.ensures.number ∙ sym (long_view c.args.buffers.now view long)
