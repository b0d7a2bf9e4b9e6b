use Rattle.std.proofs.Common.{◌≡◌, ap, ◌∙◌, refl}
use Rattle.std.specs.Rc.{rc_slice_items}
use Rattle.arrow_spec.specs.Flat.{order_by}
use Rattle.arrow_buffers.proofs.Items.{held_items}
use mathlib.Core.Bool.{Bool, true, false, not, beq}
use Rattle.arrow_buffers.proofs.buffer.Buffer.held_in.Goals as goal

same_flag : (a b : Bool) → not (beq a b) ≡ false → a ≡ b
same_flag true true e = refl
same_flag true false e = cc
same_flag false true e = cc
same_flag false false e = refl

pub range_of-requires : goal.range_of-requires
range_of-requires g c = rw (c.WIDTH.ensures, c.as_slice.ensures.value) c.self.invariant

pub returns : goal.returns
returns g c =
    let b = c.self.inside in
    let order = order_by (not b.is_big_endian) in
    c.range_of.ensures.part ∙ held_items g.T.NativeType.written g.T.NativeType.read g.T.NativeType.WIDTH c.WIDTH.result order (order_by (not c.args.is_big_endian)) (g.met.T.NativeType.writes_back order) (rc_slice_items b.bytes) c.as_slice.result.now b.at b.count c.args.self.now c.range_of.ensures.small c.self.invariant c.self.view_is c.as_slice.ensures.value c.WIDTH.ensures (ap (λ x. order_by (not x)) (same_flag b.is_big_endian c.args.is_big_endian c.if-self-is_big_endian.false))
