use Rattle.arrow_types.specs.KindOf.{kind_of}
use Rattle.arrow_arrays.specs.PartsOf.{forest_of}
use Rattle.arrow_arrays.proofs.EmptyTops.{no_union_fault}
use Rattle.arrow_arrays.proofs.empty_nested.union_over.Goals as goal

pub unreachable-requires : goal.unreachable-requires
unreachable-requires c = no_union_fault (kind_of c.args.dtype) c.args.types c.args.offsets (forest_of c.args.children.items) c.in-Err.field-0 c.requires.layout c.requires.types c.requires.offsets c.requires.children c.in-Err.ensures.err
