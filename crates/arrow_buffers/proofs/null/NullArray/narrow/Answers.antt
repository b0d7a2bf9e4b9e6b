use Rattle.arrow_buffers.proofs.Parts.{part-replicate}
use Rattle.arrow_spec.specs.Cells.{null}
use Rattle.arrow_buffers.proofs.null.NullArray.narrow.Goals as goal

pub returns-clause-cells : goal.returns-clause-cells
returns-clause-cells c = rw (← c.self.view_is) (part-replicate c.args.offset c.args.rows c.self.inside.count null (rw (← c.self.view_is) at c.requires))
