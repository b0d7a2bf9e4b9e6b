use Rattle.std.proofs.Common.{◌≡◌, ℕ, ◌*◌, ◌^◌, ◌<◌, length, get_or, not, ap, sym, subst, ◌∙◌, refl}
use Rattle.std.specs.Rc.{rc_slice_items}
use Rattle.arrow_spec.specs.Flat.{order_by}
use Rattle.arrow_types.specs.BytesBack.{take_bytes, drop_bytes}
use Rattle.arrow_buffers.specs.Rows.{part}
use Rattle.arrow_buffers.specs.Items.{items_at}
use Rattle.arrow_buffers.proofs.Parts.{length-part, length-from_on}
use Rattle.arrow_buffers.proofs.Items.{held_items, items_again, range_again}
use Rattle.arrow_buffers.proofs.buffer.Buffer.held.Given.{Over}
use Rattle.arrow_buffers.proofs.buffer.Buffer.held.Goals as goal

held_part : (g : Over) (c : goal.After-shared-bytes g) → c.shared-bytes.result ≡ part c.self.inside.at (g.T.NativeType.WIDTH * c.self.inside.count) (rc_slice_items c.self.inside.bytes)
held_part g c =
    let b = c.self.inside in
    range_again (rc_slice_items b.bytes) c.as_slice.result.now (rc_slice_items c.in_ok-clone.field-0) c.range_of-size.result.now c.shared-bytes.result b.at g.T.NativeType.WIDTH c.WIDTH.result b.count c.as_slice.ensures.value c.in_ok-clone.ensures.cases c.WIDTH.ensures c.self.invariant c.range_of-size.ensures.part c.shared-bytes.ensures

rc_small : (g : Over) (c : goal.After-shared-bytes g) → (i : ℕ) → get_or (rc_slice_items c.self.inside.bytes) i 0 < 2 ^ 8
rc_small g c = subst (λ l. (i : ℕ) → get_or l i 0 < 2 ^ 8) c.as_slice.ensures.value c.range_of-size.ensures.small

pub returns-clause-bytes : goal.returns-clause-bytes
returns-clause-bytes g c =
    let b = c.self.inside in
    let w = g.T.NativeType.WIDTH in
    let order = order_by (not b.is_big_endian) in
    held_part g c
    ∙ held_items g.T.NativeType.written g.T.NativeType.read w w order order (g.met.T.NativeType.writes_back order) (rc_slice_items b.bytes) (rc_slice_items b.bytes) b.at b.count c.args.self.now (rc_small g c) c.self.invariant c.self.view_is refl refl refl

pub returns-clause-items : goal.returns-clause-items
returns-clause-items g c =
    let b = c.self.inside in
    let w = g.T.NativeType.WIDTH in
    let order = order_by (not b.is_big_endian) in
    let n : length c.args.self.now ≡ b.count = ap length (sym c.self.view_is) ∙ length-from_on _ _ _ in
    ap (λ xs. items_at g.T.NativeType.read w order xs 0 (length c.args.self.now)) (held_part g c)
    ∙ ap (items_at g.T.NativeType.read w order (part b.at (w * b.count) (rc_slice_items b.bytes)) 0) n
    ∙ items_again g.T.NativeType.read w order (rc_slice_items b.bytes) b.at b.count
    ∙ c.self.view_is

pub returns-clause-size : goal.returns-clause-size
returns-clause-size g c =
    let b = c.self.inside in
    let n : b.count ≡ length c.args.self.now = sym (length-from_on _ _ _) ∙ ap length c.self.view_is in
    ap length (held_part g c) ∙ length-part (rc_slice_items b.bytes) b.at (g.T.NativeType.WIDTH * b.count) c.self.invariant ∙ ap (λ k. g.T.NativeType.WIDTH * k) n

pub returns-clause-small : goal.returns-clause-small
returns-clause-small g c =
    let b = c.self.inside in
    let k = g.T.NativeType.WIDTH * b.count in
    subst (λ l. (i : ℕ) → get_or l i 0 < 2 ^ 8) (sym (held_part g c)) (take_bytes k _ (drop_bytes b.at _ (rc_small g c)))
