use Rattle.std.proofs.Common.{length, ◌∙◌, sym}
use Rattle.arrow_spec.specs.Cells.{bool}
use Rattle.arrow_types.specs.KindOf.{kind_of}
use Rattle.arrow_types.specs.Physical.{physical_of}
use Rattle.arrow_buffers.specs.Layouts.{is_boolean}
use Rattle.arrow_buffers.proofs.Masks.{length-leaf}
use Rattle.arrow_buffers.proofs.Sound.{leaf_sound}
use Rattle.arrow_buffers.proofs.boolean.BooleanArray.len.Goals as goal

pub returns-clause-cells : goal.returns-clause-cells
returns-clause-cells c =
    let rows = leaf_sound (is_boolean (physical_of (kind_of c.self.inside.dtype))) (length c.self.inside.values) c.self.inside.validity c.self.invariant in
    rw (← c.self.view_is) (c.len.ensures ∙ sym (length-leaf bool c.self.inside.values c.self.inside.validity rows))
