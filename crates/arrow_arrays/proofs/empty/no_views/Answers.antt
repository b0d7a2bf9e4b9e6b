use Rattle.std.proofs.Common.{◌∙◌}
use Rattle.arrow_types.specs.KindOf.{kind_of}
use Rattle.arrow_types.specs.Physical.{physical_of}
use Rattle.arrow_buffers.specs.Layouts.{is_view}
use Rattle.arrow_arrays.proofs.NoRows.{no_view_fault}
use Rattle.arrow_arrays.proofs.empty.no_views.Goals as goal

pub unreachable-requires : goal.unreachable-requires
unreachable-requires g c = no_view_fault g.V.ViewType.IS_TEXT (is_view g.V.ViewType.IS_TEXT (physical_of (kind_of c.args.dtype))) (kind_of c.args.dtype) c.in-Ok.views c.new-in-Ok.result.items c.in-Err-try_new.field-0 c.requires (c.in-Ok.ensures ∙ c.new.ensures.items) c.in-Err-try_new.ensures.err
