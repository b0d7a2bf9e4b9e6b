use Rattle.std.proofs.Common.{◌≡◌, arith, length, ap, sym, ◌∙◌, not}
use Rattle.std.specs.Rc.{rc_slice_items}
use Rattle.arrow_spec.specs.Flat.{order_by}
use Rattle.arrow_buffers.proofs.Parts.{length-from_on}
use Rattle.arrow_buffers.proofs.Items.{part-items, part_inside}
use Rattle.arrow_buffers.proofs.buffer.Buffer.narrow.Goals as goal

pub overflow_mul-self : goal.overflow_mul-self
overflow_mul-self g c =
    let n : length c.args.self.now ≡ c.self.inside.count = ap length (sym c.self.view_is) ∙ length-from_on _ _ _ in
    let i = part_inside c.self.inside.at g.T.NativeType.WIDTH c.args.offset c.args.count c.self.inside.count (length (rc_slice_items c.self.inside.bytes)) (omega (arith, n)) c.self.invariant in
    let s = c.self.inside.bytes.items.value.small in
    rw c.WIDTH.ensures (omega (arith, i, s))

pub overflow_add-self : goal.overflow_add-self
overflow_add-self g c =
    let n : length c.args.self.now ≡ c.self.inside.count = ap length (sym c.self.view_is) ∙ length-from_on _ _ _ in
    let i = part_inside c.self.inside.at g.T.NativeType.WIDTH c.args.offset c.args.count c.self.inside.count (length (rc_slice_items c.self.inside.bytes)) (omega (arith, n)) c.self.invariant in
    let s = c.self.inside.bytes.items.value.small in
    rw c.WIDTH.ensures (omega (arith, i, s))

pub invariant_of-self : goal.invariant_of-self
invariant_of-self g c =
    let n : length c.args.self.now ≡ c.self.inside.count = ap length (sym c.self.view_is) ∙ length-from_on _ _ _ in
    let i = part_inside c.self.inside.at g.T.NativeType.WIDTH c.args.offset c.args.count c.self.inside.count (length (rc_slice_items c.self.inside.bytes)) (omega (arith, n)) c.self.invariant in
    rw c.WIDTH.ensures i

pub returns : goal.returns
returns g c =
    let b = c.self.inside in
    let n : length c.args.self.now ≡ b.count = ap length (sym c.self.view_is) ∙ length-from_on _ _ _ in
    rw (c.WIDTH.ensures, ← c.self.view_is) (part-items g.T.NativeType.read g.T.NativeType.WIDTH (order_by (not b.is_big_endian)) (rc_slice_items b.bytes) b.at c.args.offset c.args.count b.count (omega (arith, n)))
