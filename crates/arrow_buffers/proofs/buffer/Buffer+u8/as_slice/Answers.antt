use Rattle.std.proofs.Common.{◌≡◌, ◌+◌, ◌-◌, take, drop, ap, sym, ◌∙◌, arith, not}
use Rattle.std.specs.Rc.{rc_slice_items}
use Rattle.arrow_spec.specs.Flat.{order_by}
use Rattle.arrow_buffers.proofs.Items.{byte_items}
use Rattle.arrow_buffers.proofs.buffer.Buffer+u8.as_slice.Goals as goal

pub returns : goal.returns
returns c =
    let b = c.self.inside in
    let n : b.at + b.count - b.at ≡ b.count = omega arith in
    ap (λ k. take k (drop b.at c.as_slice-bytes.result.now)) n ∙ ap (λ xs. take b.count (drop b.at xs)) c.as_slice-bytes.ensures.value
    ∙ sym (byte_items (order_by (not b.is_big_endian)) (rc_slice_items b.bytes) b.at b.count (let i = c.self.invariant in omega (arith, i))) ∙ c.self.view_is
