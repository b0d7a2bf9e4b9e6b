use Rattle.std.proofs.Common.{◌∙◌, sym, ap, Some}
use Rattle.arrow_types.specs.Physical.{physical_of}
use Rattle.arrow_buffers.specs.Rows.{is_valid}
use Rattle.arrow_buffers.specs.Layouts.{is_view}
use Rattle.arrow_buffers.specs.Views.{view_at, view_bytes}
use Rattle.arrow_buffers.proofs.ViewParts.{view_sound}
use Rattle.arrow_arrays.proofs.CellRows.{none_there, some_there, null_view, valid_view}
use Rattle.csv_rows.proofs.cells.view_in.Goals as goal

pub returns-in-None : goal.returns-in-None
returns-in-None g c =
    let seen = (view_sound g.V.ViewType.IS_TEXT (is_view g.V.ViewType.IS_TEXT (physical_of c.args.array.now.kind)) c.args.array.now c.len.ensures.sound).seen in
    null_view g.V.ViewType.IS_TEXT c.args.array.now c.args.row seen c.requires (none_there (is_valid c.args.array.now.validity c.args.row) (view_bytes c.args.array.now.buffers (view_at c.args.array.now.views c.args.row)) c.in-None.ensures)

pub returns-in-Some : goal.returns-in-Some
returns-in-Some g c =
    let seen = (view_sound g.V.ViewType.IS_TEXT (is_view g.V.ViewType.IS_TEXT (physical_of c.args.array.now.kind)) c.args.array.now c.len.ensures.sound).seen in
    let there = some_there (is_valid c.args.array.now.validity c.args.row) (view_bytes c.args.array.now.buffers (view_at c.args.array.now.views c.args.row)) c.in-Some.bytes.now c.in-Some.ensures in
    valid_view g.V.ViewType.IS_TEXT c.args.array.now c.args.row c.in-Some.bytes.now seen c.requires there.0 there.1 ∙ ap Some (sym c.bytes_value.ensures)
