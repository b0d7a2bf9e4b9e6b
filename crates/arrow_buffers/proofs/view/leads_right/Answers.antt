use Rattle.std.proofs.Common.{◌≡◌, ◌+◌, ◌≤◌, ◌<◌, length, take, drop, sym, ap, ◌∙◌, arith}
use Rattle.std.specs.Str.{bytes_eq}
use Rattle.arrow_spec.specs.Arrays.{u32_of}
use Rattle.arrow_buffers.specs.Views.{buffer_at, long_bytes}
use Rattle.arrow_buffers.proofs.Views.{no_buffer, past_buffer, by_prefix, buffer_read, range_bytes}
use Rattle.arrow_buffers.proofs.view.leads_right.Goals as goal

pub returns-then-number-buffers : goal.returns-then-number-buffers
returns-then-number-buffers c = sym (no_buffer c.args.buffers.now c.args.view.now (omega (arith, c.number_at-number.ensures.number)))

pub returns-then-buffer-from : goal.returns-then-buffer-from
returns-then-buffer-from c =
    let view = c.args.view.now in
    let n : u32_of view 8 < length c.args.buffers.now = omega (arith, c.number_at-number.ensures.number) in
    let b : c.as_slice-buffer.result.now ≡ buffer_at c.args.buffers.now (u32_of view 8) = buffer_read c.args.buffers.now c.number_at-number.result (u32_of view 8) c.index-buffers-number.result c.as_slice-buffer.result.now c.number_at-number.ensures.number c.if-number-buffers.false c.index-buffers-number.is c.as_slice-buffer.ensures in
    sym (past_buffer c.args.buffers.now view n (omega (arith, ap length b, c.number_at-from.ensures.number, c.number_at-length.ensures.number, c.if-buffer-from.true)))

pub returns : goal.returns
returns c =
    let view = c.args.view.now in
    let n : u32_of view 8 < length c.args.buffers.now = omega (arith, c.number_at-number.ensures.number) in
    let b : c.as_slice-buffer.result.now ≡ buffer_at c.args.buffers.now (u32_of view 8) = buffer_read c.args.buffers.now c.number_at-number.result (u32_of view 8) c.index-buffers-number.result c.as_slice-buffer.result.now c.number_at-number.ensures.number c.if-number-buffers.false c.index-buffers-number.is c.as_slice-buffer.ensures in
    let i : u32_of view 12 + u32_of view 0 ≤ length (buffer_at c.args.buffers.now (u32_of view 8)) = omega (arith, ap length b, c.number_at-from.ensures.number, c.number_at-length.ensures.number, c.if-buffer-from.false) in
    let bytes : c.bytes_from-bytes.result.now ≡ long_bytes c.args.buffers.now view = c.bytes_from-bytes.ensures ∙ range_bytes c.as_slice-buffer.result.now (buffer_at c.args.buffers.now (u32_of view 8)) c.number_at-from.result (u32_of view 12) c.number_at-length.result (u32_of view 0) b c.number_at-from.ensures.number c.number_at-length.ensures.number in
    c.are_same.ensures ∙ ap (λ bs. bytes_eq (take 4 (drop 4 view)) (take 4 bs)) bytes ∙ sym (by_prefix c.args.buffers.now view n i)
