use Rattle.std.proofs.Common.{◌<◌, sym, ◌∙◌}
use Rattle.arrow_types.specs.KindOf.{kind_of}
use Rattle.arrow_types.specs.Physical.{physical_of}
use Rattle.arrow_buffers.specs.Layouts.{is_view}
use Rattle.arrow_buffers.specs.Views.{Views, view_rows}
use Rattle.arrow_buffers.proofs.ViewParts.{view_sound, good_row}
use Rattle.arrow_buffers.proofs.binary_view.BinaryViewArrayGeneric.value.Goals as goal

pub bytes_in-requires-clause-good : goal.bytes_in-requires-clause-good
bytes_in-requires-clause-good g c =
    let whole : Views = record { kind = kind_of c.self.inside.dtype; views = c.self.inside.views; buffers = c.self.inside.data_buffers.items; validity = c.self.inside.validity } in
    let req : c.args.row < view_rows whole.views = rw (← c.self.view_is) at c.requires in
    let good = good_row whole c.args.row (view_sound g.V.ViewType.IS_TEXT (is_view g.V.ViewType.IS_TEXT (physical_of (kind_of c.self.inside.dtype))) whole c.self.invariant).seen req (sym c.validity_at.ensures ∙ c.if-not-validity_at.false) in
    rw (c.as_slice-2.ensures.value, c.view_at-view.ensures.view, c.as_slice.ensures) good
