use Rattle.std.proofs.Common.{length, not, ap, sym, ◌∙◌}
use Rattle.arrow_spec.specs.Flat.{order_by}
use Rattle.ipc_bodies.proofs.Counted.{length_view}
use Rattle.ipc_bodies.proofs.offsets.CountedOffsets.len.Goals as goal

pub returns : goal.returns
returns c =
    let o = c.self.inside in
    c.len.ensures ∙ sym (length_view (order_by o.is_little_endian) (order_by (not o.is_big_endian)) o.is_large o.bytes c.self.invariant.whole) ∙ ap length c.self.view_is
