use Rattle.schema_reader.proofs.Shapes.{applied}
use Rattle.schema_reader.proofs.shape.read_shape.Goals as goal

pub returns-clause-gives : goal.returns-clause-gives
returns-clause-gives c = applied c.args.children c.read_applied.result _ c.read_applied.ensures.gives
