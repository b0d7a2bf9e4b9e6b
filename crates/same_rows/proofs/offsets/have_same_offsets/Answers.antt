use Rattle.std.proofs.Common.{◌≡◌, ◌∙◌, ◌*◌, length, rules, sym, ap}
use Rattle.std.specs.Prelude.{not}
use Rattle.arrow_spec.specs.Flat.{order_by}
use Rattle.arrow_buffers.specs.Items.{items_at}
use Rattle.arrow_buffers.specs.Rows.{part}
use Rattle.same_rows.proofs.SameOffsets.{same_items}
use Rattle.same_rows.proofs.offsets.have_same_offsets.Goals as goal

pub returns : goal.returns
returns g c =
    let read = g.O.NativeType.read in
    let w = g.O.NativeType.WIDTH in
    let from = c.args.from in
    let start = c.args.start in
    let count = c.args.count in
    let held = c.in-Ok.held in
    let others = c.in-Ok-held.others in
    let order = order_by (not c.in-Ok.order) in
    let b = c.args.b.now in
    let one_order : c.in-Ok.order ≡ c.in-Ok-held.other = search (rules, c.if-order-other.false) in
    let read_so : items_at read w order others 0 (length b) ≡ b = ap (λ o. items_at read w (order_by (not o)) others 0 (length b)) one_order ∙ c.in-Ok-held.ensures.items in
    let mine : c.bytes_of_items.result.now ≡ part (w * from) (w * count) held = cc (c.bytes_of_items.ensures, c.WIDTH.ensures, c.as_slice.ensures) in
    let theirs : c.bytes_of_items-2.result.now ≡ part (w * start) (w * count) others = cc (c.bytes_of_items-2.ensures, c.WIDTH-2.ensures, c.as_slice-2.ensures) in
    λ h. same_items read w order c.args.a.now b held others from start count c.in-Ok.ensures.items read_so c.requires.a c.requires.b (sym mine ∙ c.are_same_bytes.ensures.0 h ∙ theirs)
