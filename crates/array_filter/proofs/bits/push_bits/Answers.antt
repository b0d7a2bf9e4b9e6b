use Rattle.std.proofs.Common.{◌+◌}
use Rattle.arrow_buffers.specs.Rows.{part}
use Rattle.array_filter.proofs.Lists.{part_more, pushed}
use Rattle.array_filter.proofs.bits.push_bits.Goals as goal

pub loop-i-preserved : goal.loop-i-preserved
loop-i-preserved c =
    let bits = c.args.bits.now in
    let i = c.loop-i.i in
    pushed c.push.new.self.items c.loop-i.taken.items c.reserve.new.self.items (part c.args.from i bits) (part c.args.from (i + 1) bits) c.get.result c.in_ok-push.ensures.items c.loop-i.invariant (part_more bits c.args.from i c.get.result c.get.ensures)
