use Rattle.std.proofs.Common.{◌≡◌, length, ap, sym, ◌∙◌, arith, refl}
use Rattle.arrow_buffers.proofs.Parts.{length-from_on, get-from_on}
use Rattle.arrow_buffers.proofs.bitmap.Bitmap.get.Goals as goal

pub overflow_add-self-inside : goal.overflow_add-self-inside
overflow_add-self-inside c =
    let n : length c.args.self.now ≡ c.self.inside.count = ap length (sym c.self.view_is) ∙ length-from_on _ _ _ in
    omega arith

pub is_set-requires : goal.is_set-requires
is_set-requires c =
    let n : length c.args.self.now ≡ c.self.inside.count = ap length (sym c.self.view_is) ∙ length-from_on _ _ _ in
    omega (arith, c.as_slice.ensures.len)

pub returns : goal.returns
returns c =
    let n : length c.args.self.now ≡ c.self.inside.count = ap length (sym c.self.view_is) ∙ length-from_on _ _ _ in
    rw (← c.self.view_is, get-from_on _ c.self.inside.start c.self.inside.count c.args.i (omega arith), c.is_set.ensures, c.as_slice.ensures.value) refl
