use Rattle.std.proofs.Common.{◌≡◌, length, ap, sym, ◌∙◌, arith}
use Rattle.arrow_buffers.proofs.Parts.{length-from_on, part-from_on}
use Rattle.arrow_buffers.proofs.bitmap.Bitmap.narrow.Goals as goal

pub overflow_add-self : goal.overflow_add-self
overflow_add-self c =
    let n : length c.args.self.now ≡ c.self.inside.count = ap length (sym c.self.view_is) ∙ length-from_on _ _ _ in
    omega arith

pub invariant_of-self : goal.invariant_of-self
invariant_of-self c =
    let n : length c.args.self.now ≡ c.self.inside.count = ap length (sym c.self.view_is) ∙ length-from_on _ _ _ in
    (omega arith, omega arith)

pub returns : goal.returns
returns c =
    let n : length c.args.self.now ≡ c.self.inside.count = ap length (sym c.self.view_is) ∙ length-from_on _ _ _ in
    rw (← c.self.view_is) (part-from_on _ _ c.self.inside.count _ _ (omega arith))
