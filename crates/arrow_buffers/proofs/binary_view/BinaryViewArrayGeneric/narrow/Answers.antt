use Rattle.std.proofs.Common.{◌+◌, ◌≤◌}
use Rattle.arrow_types.specs.KindOf.{kind_of}
use Rattle.arrow_types.specs.Physical.{physical_of}
use Rattle.arrow_buffers.specs.Layouts.{is_view}
use Rattle.arrow_buffers.specs.Views.{Views, view_rows}
use Rattle.arrow_buffers.proofs.ViewParts.{view_sound, view_fault-part, view_cells-part}
use Rattle.arrow_buffers.proofs.binary_view.BinaryViewArrayGeneric.narrow.Goals as goal

pub invariant_of-self : goal.invariant_of-self
invariant_of-self g c =
    let whole : Views = record { kind = kind_of c.self.inside.dtype; views = c.self.inside.views; buffers = c.self.inside.data_buffers.items; validity = c.self.inside.validity } in
    let req : c.args.offset + c.args.rows ≤ view_rows whole.views = rw (← c.self.view_is) at c.requires in
    rw (c.narrow.ensures, c.narrow_validity.ensures) (view_fault-part g.V.ViewType.IS_TEXT (is_view g.V.ViewType.IS_TEXT (physical_of (kind_of c.self.inside.dtype))) c.args.offset c.args.rows whole c.self.invariant req)

pub returns-clause-cells : goal.returns-clause-cells
returns-clause-cells g c =
    let whole : Views = record { kind = kind_of c.self.inside.dtype; views = c.self.inside.views; buffers = c.self.inside.data_buffers.items; validity = c.self.inside.validity } in
    let req : c.args.offset + c.args.rows ≤ view_rows whole.views = rw (← c.self.view_is) at c.requires in
    rw (← c.self.view_is, c.narrow.ensures, c.narrow_validity.ensures) (view_cells-part g.V.ViewType.IS_TEXT c.args.offset c.args.rows whole (view_sound g.V.ViewType.IS_TEXT (is_view g.V.ViewType.IS_TEXT (physical_of (kind_of c.self.inside.dtype))) whole c.self.invariant).seen req)
