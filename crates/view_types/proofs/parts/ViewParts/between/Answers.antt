use Rattle.view_types.specs.Tops.{top_in}
use Rattle.view_types.proofs.Pieces.{row_stands}
use Rattle.view_types.proofs.parts.ViewParts.between.Goals as goal

pub returns-clause-bytes : goal.returns-clause-bytes
returns-clause-bytes c = row_stands (top_in c.args.self.now) c.args.is_large c.args.row _ _ c.offsets-from.ensures.from c.offsets-from.ensures.to c.requires.row
