use Rattle.arrow_spec.specs.Cells.{bool}
use Rattle.arrow_buffers.proofs.Masks.{leaf_cells-part}
use Rattle.arrow_buffers.proofs.boolean.BooleanArray.narrow.Goals as goal

pub returns-clause-cells : goal.returns-clause-cells
returns-clause-cells c = rw (← c.self.view_is, c.narrow.ensures, c.narrow_validity.ensures) (leaf_cells-part bool c.args.offset c.args.rows c.self.inside.values c.self.inside.validity)
