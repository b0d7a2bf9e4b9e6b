use Rattle.std.proofs.Common.{◌≡◌, ◌+◌, ◌≤◌, ◌<◌, length, take, drop, sym, ap, ◌∙◌, arith}
use Rattle.std.specs.Str.{bytes_eq}
use Rattle.arrow_spec.specs.Arrays.{u32_of}
use Rattle.arrow_buffers.specs.Views.{buffer_at, long_bytes}
use Rattle.arrow_buffers.proofs.Views.{no_buffer, past_buffer, by_prefix, range_bytes}
use Rattle.view_types.specs.Tops.{top_in}
use Rattle.ipc_view.specs.Layouts.{buffers_in}
use Rattle.ipc_view.proofs.Viewed.{buffer_lent, count_seen}
use Rattle.ipc_view.proofs.views.leads_right.Goals as goal

pub returns-then-number-len : goal.returns-then-number-len
returns-then-number-len c =
    let p = c.args.parts.now in
    sym (no_buffer (buffers_in (top_in p)) c.args.view.now (omega (arith, c.number_at-number.ensures.number, count_seen p.input.now p.buffers.items, c.len.ensures, p.buffers.ok.0, c.if-number-len.true)))

pub returns-then-buffer-from : goal.returns-then-buffer-from
returns-then-buffer-from c =
    let p = c.args.parts.now in
    let bufs = buffers_in (top_in p) in
    let view = c.args.view.now in
    let n : c.number_at-number.result < length p.buffers.items = omega (arith, c.if-number-len.false, c.len.ensures, p.buffers.ok.0) in
    let m : u32_of view 8 < length bufs = omega (arith, n, c.number_at-number.ensures.number, count_seen p.input.now p.buffers.items) in
    let b : c.part_of-buffer.result.now ≡ buffer_at bufs (u32_of view 8) = buffer_lent p.input.now p.buffers.items c.number_at-number.result (u32_of view 8) c.index.result.now c.part_of-buffer.result.now c.number_at-number.ensures.number n c.index.ensures c.part_of-buffer.ensures.part in
    sym (past_buffer bufs view m (omega (arith, ap length b, c.number_at-from.ensures.number, c.number_at-length.ensures.number, c.if-buffer-from.true)))

pub returns : goal.returns
returns c =
    let p = c.args.parts.now in
    let bufs = buffers_in (top_in p) in
    let view = c.args.view.now in
    let n : c.number_at-number.result < length p.buffers.items = omega (arith, c.if-number-len.false, c.len.ensures, p.buffers.ok.0) in
    let m : u32_of view 8 < length bufs = omega (arith, n, c.number_at-number.ensures.number, count_seen p.input.now p.buffers.items) in
    let b : c.part_of-buffer.result.now ≡ buffer_at bufs (u32_of view 8) = buffer_lent p.input.now p.buffers.items c.number_at-number.result (u32_of view 8) c.index.result.now c.part_of-buffer.result.now c.number_at-number.ensures.number n c.index.ensures c.part_of-buffer.ensures.part in
    let i : u32_of view 12 + u32_of view 0 ≤ length (buffer_at bufs (u32_of view 8)) = omega (arith, ap length b, c.number_at-from.ensures.number, c.number_at-length.ensures.number, c.if-buffer-from.false) in
    let bytes : c.bytes_from-bytes.result.now ≡ long_bytes bufs view = c.bytes_from-bytes.ensures ∙ range_bytes c.part_of-buffer.result.now (buffer_at bufs (u32_of view 8)) c.number_at-from.result (u32_of view 12) c.number_at-length.result (u32_of view 0) b c.number_at-from.ensures.number c.number_at-length.ensures.number in
    c.are_same.ensures ∙ ap (λ bs. bytes_eq (take 4 (drop 4 view)) (take 4 bs)) bytes ∙ sym (by_prefix bufs view m i)
