use Rattle.std.proofs.Common.{◌≡◌, ◌+◌, ◌≤◌, ◌<◌, length, refl, sym, ap, subst, ◌∙◌, arith}
use Rattle.std.proofs.lemmas.List.{get_or_read}
use Rattle.arrow_spec.specs.Arrays.{u32_of}
use Rattle.arrow_buffers.specs.Views.{buffer_at}
use Rattle.arrow_buffers.proofs.Views.{leads}
use Rattle.arrow_buffers.proofs.TextViews.{short_ascii, long_text}
use Rattle.view_types.specs.Ranges.{Lies}
use Rattle.view_types.specs.Tops.{top_in}
use Rattle.ipc_view.specs.Layouts.{buffers_in}
use Rattle.ipc_view.proofs.Viewed.{buffer_lent, count_seen}
use Rattle.ipc_view.proofs.text_views.is_text_at_a_glance.Goals as goal

pub returns-then-length-le-SHORT : goal.returns-then-length-le-SHORT
returns-then-length-le-SHORT c = λ t.
    let short : u32_of c.args.view.now 0 ≤ 12 = omega (arith, c.number_at-length.ensures.number) in
    short_ascii (buffers_in (top_in c.args.parts.now)) c.args.view.now short (c.is_ascii.ensures t)

pub index-requires : goal.index-requires
index-requires c =
    let p = c.args.parts.now in
    let view = c.args.view.now in
    let long : 12 < u32_of view 0 = omega (arith, c.number_at-length.ensures.number) in
    let l = leads (buffers_in (top_in p)) view c.requires.good long in
    omega (arith, l.number, c.number_at-number.ensures.number, count_seen p.input.now p.buffers.items, p.buffers.ok.0)

pub part_of-buffer-requires : goal.part_of-buffer-requires
part_of-buffer-requires c =
    let p = c.args.parts.now in
    let view = c.args.view.now in
    let long : 12 < u32_of view 0 = omega (arith, c.number_at-length.ensures.number) in
    let l = leads (buffers_in (top_in p)) view c.requires.good long in
    let n : c.number_at-number.result < length p.buffers.items = omega (arith, l.number, c.number_at-number.ensures.number, count_seen p.input.now p.buffers.items) in
    subst (Lies p.input.now) (sym (get_or_read p.buffers.items c.number_at-number.result c.index.result.now n c.index.ensures (record { at = 0; length = 0 }))) (c.requires.lie c.number_at-number.result n)

pub is_boundary-requires : goal.is_boundary-requires
is_boundary-requires c =
    let p = c.args.parts.now in
    let bufs = buffers_in (top_in p) in
    let view = c.args.view.now in
    let long : 12 < u32_of view 0 = omega (arith, c.number_at-length.ensures.number) in
    let l = leads bufs view c.requires.good long in
    let n : c.number_at-number.result < length p.buffers.items = omega (arith, l.number, c.number_at-number.ensures.number, count_seen p.input.now p.buffers.items) in
    let b : c.part_of-buffer.result.now ≡ buffer_at bufs (u32_of view 8) = buffer_lent p.input.now p.buffers.items c.number_at-number.result (u32_of view 8) c.index.result.now c.part_of-buffer.result.now c.number_at-number.ensures.number n c.index.ensures c.part_of-buffer.ensures.part in
    omega (arith, ap length b, c.number_at-from.ensures.number, l.inside)

pub is_boundary-requires-2 : goal.is_boundary-requires-2
is_boundary-requires-2 c =
    let p = c.args.parts.now in
    let bufs = buffers_in (top_in p) in
    let view = c.args.view.now in
    let long : 12 < u32_of view 0 = omega (arith, c.number_at-length.ensures.number) in
    let l = leads bufs view c.requires.good long in
    let n : c.number_at-number.result < length p.buffers.items = omega (arith, l.number, c.number_at-number.ensures.number, count_seen p.input.now p.buffers.items) in
    let b : c.part_of-buffer.result.now ≡ buffer_at bufs (u32_of view 8) = buffer_lent p.input.now p.buffers.items c.number_at-number.result (u32_of view 8) c.index.result.now c.part_of-buffer.result.now c.number_at-number.ensures.number n c.index.ensures c.part_of-buffer.ensures.part in
    omega (arith, ap length b, c.number_at-from.ensures.number, c.number_at-length.ensures.number, l.inside)

pub returns : goal.returns
returns c = λ t.
    let p = c.args.parts.now in
    let bufs = buffers_in (top_in p) in
    let view = c.args.view.now in
    let long : 12 < u32_of view 0 = omega (arith, c.number_at-length.ensures.number) in
    let l = leads bufs view c.requires.good long in
    let n : c.number_at-number.result < length p.buffers.items = omega (arith, l.number, c.number_at-number.ensures.number, count_seen p.input.now p.buffers.items) in
    let b : c.part_of-buffer.result.now ≡ buffer_at bufs (u32_of view 8) = buffer_lent p.input.now p.buffers.items c.number_at-number.result (u32_of view 8) c.index.result.now c.part_of-buffer.result.now c.number_at-number.ensures.number n c.index.ensures c.part_of-buffer.ensures.part in
    long_text bufs view c.part_of-buffer.result.now c.number_at-from.result (c.number_at-from.result + c.number_at-length.result) long b c.number_at-from.ensures.number (omega (arith, c.number_at-from.ensures.number, c.number_at-length.ensures.number))
    (c.requires.texts c.if-not-are_texts.false (u32_of view 8) l.number) (c.is_boundary.ensures c.if-not-is_boundary.false) (c.is_boundary-2.ensures t)
