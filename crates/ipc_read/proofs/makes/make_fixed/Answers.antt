use Rattle.std.proofs.Common.{◌≡◌, subst, Some}
use Rattle.arrow_types.specs.KindOf.{kind_of}
use Rattle.arrow_buffers.specs.Leaf.{fixed_fault}
use Rattle.ipc_read.proofs.LeafArrays.{fixed_none}
use Rattle.ipc_read.proofs.makes.make_fixed.Goals as goal

pub unreachable-requires : goal.unreachable-requires
unreachable-requires c =
    let f = subst (λ k. fixed_fault (record { kind = k; values = c.args.values; validity = c.args.validity }) ≡ Some c.in-Err.field-0) c.in_ok-dtype.ensures c.in-Err.ensures.err in
    fixed_none (kind_of c.args.dtype.now) c.args.values c.args.validity c.args.rows c.in-Err.field-0 c.requires.kind c.requires.count c.requires.rows f
