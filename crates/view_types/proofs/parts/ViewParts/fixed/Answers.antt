use Rattle.std.proofs.Common.{arith}
use Rattle.view_types.specs.Tops.{top_in}
use Rattle.view_types.proofs.Fits.{one_more}
use Rattle.view_types.proofs.Pieces.{fixed_stands}
use Rattle.view_types.proofs.parts.ViewParts.fixed.Goals as goal

pub overflow_mul-result : goal.overflow_mul-result
overflow_mul-result c = omega (arith, one_more c.args.size c.args.row c.args.self.now.rows c.args.self.now.first.length c.requires.row c.requires.values.room)

pub overflow_add-result : goal.overflow_add-result
overflow_add-result c = omega (arith, one_more c.args.size c.args.row c.args.self.now.rows c.args.self.now.first.length c.requires.row c.requires.values.room, c.requires.values.lies)

pub returns-clause-lies : goal.returns-clause-lies
returns-clause-lies c = omega (arith, one_more c.args.size c.args.row c.args.self.now.rows c.args.self.now.first.length c.requires.row c.requires.values.room, c.requires.values.lies)

pub returns-clause-bytes : goal.returns-clause-bytes
returns-clause-bytes c = fixed_stands (top_in c.args.self.now) c.args.row c.args.size (one_more c.args.size c.args.row c.args.self.now.rows c.args.self.now.first.length c.requires.row c.requires.values.room)
