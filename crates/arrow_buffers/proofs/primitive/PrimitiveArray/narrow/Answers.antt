use Rattle.arrow_buffers.proofs.Masks.{leaf_cells-part}
use Rattle.arrow_buffers.proofs.primitive.PrimitiveArray.narrow.Goals as goal

pub returns-clause-cells : goal.returns-clause-cells
returns-clause-cells g c = rw (← c.self.view_is, c.narrow.ensures, c.narrow_validity.ensures) (leaf_cells-part g.T.NativeType.cell c.args.offset c.args.rows c.self.inside.values c.self.inside.validity)
