use Rattle.std.proofs.Common.{sym}
use Rattle.arrow_types.specs.KindOf.{kind_of}
use Rattle.arrow_buffers.proofs.Fixed.{length-fixed_cells}
use Rattle.arrow_buffers.proofs.fixed_size_binary.FixedSizeBinaryArray.len.Goals as goal

pub returns-clause-cells : goal.returns-clause-cells
returns-clause-cells c =
    let l = length-fixed_cells (record { kind = kind_of c.self.inside.dtype; values = c.self.inside.values; validity = c.self.inside.validity }) c.self.invariant in
    rw (c.len.ensures, c.size.ensures.size, ← c.self.view_is) (sym l)
