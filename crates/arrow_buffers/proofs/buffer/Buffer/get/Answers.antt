use Rattle.std.proofs.Common.{◌≡◌, length, ap, sym, ◌∙◌, arith, not}
use Rattle.std.specs.Rc.{rc_slice_items}
use Rattle.arrow_spec.specs.Flat.{little, big, order_by}
use Rattle.arrow_buffers.proofs.Parts.{length-from_on}
use Rattle.arrow_buffers.proofs.Items.{item_inside, get-item}
use Rattle.arrow_buffers.proofs.buffer.Buffer.get.Goals as goal

pub overflow_mul-at : goal.overflow_mul-at
overflow_mul-at g c =
    let n : length c.args.self.now ≡ c.self.inside.count = ap length (sym c.self.view_is) ∙ length-from_on _ _ _ in
    let i = item_inside c.self.inside.at g.T.NativeType.WIDTH c.args.i c.self.inside.count (length (rc_slice_items c.self.inside.bytes)) (omega (arith, n)) c.self.invariant in
    rw c.WIDTH.ensures (omega (arith, i, c.as_slice-bytes.ensures.len))

pub overflow_add-at : goal.overflow_add-at
overflow_add-at g c =
    let n : length c.args.self.now ≡ c.self.inside.count = ap length (sym c.self.view_is) ∙ length-from_on _ _ _ in
    let i = item_inside c.self.inside.at g.T.NativeType.WIDTH c.args.i c.self.inside.count (length (rc_slice_items c.self.inside.bytes)) (omega (arith, n)) c.self.invariant in
    rw c.WIDTH.ensures (omega (arith, i, c.as_slice-bytes.ensures.len))

pub overflow_add-item : goal.overflow_add-item
overflow_add-item g c =
    let n : length c.args.self.now ≡ c.self.inside.count = ap length (sym c.self.view_is) ∙ length-from_on _ _ _ in
    let i = item_inside c.self.inside.at g.T.NativeType.WIDTH c.args.i c.self.inside.count (length (rc_slice_items c.self.inside.bytes)) (omega (arith, n)) c.self.invariant in
    rw (c.WIDTH.ensures, c.WIDTH-2.ensures) (omega (arith, i, c.as_slice-bytes.ensures.len))

pub slice_bounds-item-end : goal.slice_bounds-item-end
slice_bounds-item-end g c =
    let n : length c.args.self.now ≡ c.self.inside.count = ap length (sym c.self.view_is) ∙ length-from_on _ _ _ in
    let i = item_inside c.self.inside.at g.T.NativeType.WIDTH c.args.i c.self.inside.count (length (rc_slice_items c.self.inside.bytes)) (omega (arith, n)) c.self.invariant in
    rw (c.WIDTH.ensures, c.WIDTH-2.ensures) (omega (arith, i, c.as_slice-bytes.ensures.len))

pub returns-then-self : goal.returns-then-self
returns-then-self g c =
    let b = c.self.inside in
    let n : length c.args.self.now ≡ b.count = ap length (sym c.self.view_is) ∙ length-from_on _ _ _ in
    get-item g.T.NativeType.read g.T.NativeType.WIDTH _ _ (order_by (not b.is_big_endian)) big (rc_slice_items b.bytes) c.as_slice-bytes.result.now b.at b.count c.args.i c.args.self.now c.from_be_bytes.result c.self.view_is (omega (arith, n)) (ap (λ x. order_by (not x)) c.if-self.true) c.as_slice-bytes.ensures.value c.WIDTH.ensures c.WIDTH-2.ensures c.from_be_bytes.ensures

pub returns-else-self : goal.returns-else-self
returns-else-self g c =
    let b = c.self.inside in
    let n : length c.args.self.now ≡ b.count = ap length (sym c.self.view_is) ∙ length-from_on _ _ _ in
    get-item g.T.NativeType.read g.T.NativeType.WIDTH _ _ (order_by (not b.is_big_endian)) little (rc_slice_items b.bytes) c.as_slice-bytes.result.now b.at b.count c.args.i c.args.self.now c.from_le_bytes.result c.self.view_is (omega (arith, n)) (ap (λ x. order_by (not x)) c.if-self.false) c.as_slice-bytes.ensures.value c.WIDTH.ensures c.WIDTH-2.ensures c.from_le_bytes.ensures
