use Rattle.std.proofs.Common.{◌≡◌, ◌+◌, ◌*◌, ◌/◌, ◌%◌, length, take, ap, sym, ◌∙◌, arith}
use Rattle.std.specs.Rc.{rc_slice_items}
use Rattle.arrow_spec.specs.Framing.{packed}
use Rattle.arrow_buffers.specs.Bits.{bits_from}
use Rattle.arrow_buffers.proofs.Parts.{length-from_on}
use Rattle.arrow_buffers.proofs.bitmap.Bitmap.whole_bytes.Goals as goal

pub returns : goal.returns
returns c =
    let b = c.self.inside in
    let n : b.count ≡ length c.args.self.now = sym (length-from_on _ _ _) ∙ ap length c.self.view_is in
    let from : 8 * (b.start / 8) ≡ b.start = omega (arith, c.if-self-ne0.false) in
    let all : 8 * (b.count / 8) + b.count % 8 ≡ b.count = omega arith in
    c.bytes_between.ensures (b.count % 8)
    ∙ ap (λ k. take (b.count / 8) (packed (bits_from c.as_slice.result.now k (8 * (b.count / 8) + b.count % 8)))) from
    ∙ ap (λ k. take (b.count / 8) (packed (bits_from c.as_slice.result.now b.start k))) all
    ∙ ap (λ xs. take (b.count / 8) (packed (bits_from xs b.start b.count))) c.as_slice.ensures.value
    ∙ ap (λ bits. take (b.count / 8) (packed bits)) c.self.view_is
    ∙ ap (λ k. take (k / 8) (packed c.args.self.now)) n
