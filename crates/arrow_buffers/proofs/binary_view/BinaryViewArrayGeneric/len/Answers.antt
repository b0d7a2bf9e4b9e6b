use Rattle.std.proofs.Common.{◌/◌, sym, ap, ◌∙◌}
use Rattle.arrow_types.specs.KindOf.{kind_of}
use Rattle.arrow_types.specs.Physical.{physical_of}
use Rattle.arrow_buffers.specs.Layouts.{is_view}
use Rattle.arrow_buffers.specs.Views.{Views}
use Rattle.arrow_buffers.proofs.ViewParts.{view_sound, length-view_cells}
use Rattle.arrow_buffers.proofs.binary_view.BinaryViewArrayGeneric.len.Goals as goal

pub returns-clause-cells : goal.returns-clause-cells
returns-clause-cells g c =
    let whole : Views = record { kind = kind_of c.self.inside.dtype; views = c.self.inside.views; buffers = c.self.inside.data_buffers.items; validity = c.self.inside.validity } in
    rw (← c.self.view_is) (ap (λ n. n / 16) c.len.ensures ∙ sym (length-view_cells g.V.ViewType.IS_TEXT whole (view_sound g.V.ViewType.IS_TEXT (is_view g.V.ViewType.IS_TEXT (physical_of (kind_of c.self.inside.dtype))) whole c.self.invariant).seen))
