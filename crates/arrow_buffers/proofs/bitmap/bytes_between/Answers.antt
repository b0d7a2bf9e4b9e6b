use Rattle.std.proofs.Common.{◌≡◌, ◌+◌, ◌-◌, take, drop, ap, sym, ◌∙◌, arith}
use Rattle.arrow_buffers.proofs.Packing.{whole_packed}
use Rattle.arrow_buffers.proofs.bitmap.bytes_between.Goals as goal

pub returns : goal.returns
returns c = λ rest.
    (let n : c.args.from + c.args.count - c.args.from ≡ c.args.count = omega arith in
    ap (λ k. take k (drop c.args.from c.args.bytes.now)) n ∙ sym (whole_packed c.args.bytes.now c.args.from c.args.count rest (λ i. (c.type_inv.bytes i).fits) c.requires))
