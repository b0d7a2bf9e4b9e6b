use Rattle.std.proofs.Common.{map}
use Rattle.arrow_types.specs.KindOf.{kind_of}
use Rattle.arrow_types.specs.Physical.{physical_of}
use Rattle.arrow_buffers.specs.Layouts.{is_variable}
use Rattle.arrow_arrays.proofs.NoRows.{no_variable_fault}
use Rattle.arrow_arrays.proofs.empty.no_variable.Goals as goal

pub unreachable-requires : goal.unreachable-requires
unreachable-requires g c = no_variable_fault g.V.ViewType.IS_TEXT (is_variable g.V.ViewType.IS_TEXT g.O.Offset.IS_LARGE (physical_of (kind_of c.args.dtype))) (kind_of c.args.dtype) (map g.O.Offset.number c.args.offsets) c.args.values c.in-Err.field-0 c.requires.layout c.requires.start c.requires.values c.in-Err.ensures.err
