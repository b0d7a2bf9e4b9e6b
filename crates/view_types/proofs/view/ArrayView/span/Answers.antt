use Rattle.std.proofs.Common.{◌<◌, sym, subst, arith}
use Rattle.view_types.specs.Tops.{top_in}
use Rattle.view_types.specs.Views.{View, rows_of, views}
use Rattle.view_types.proofs.Fits.{first_item}
use Rattle.view_types.proofs.view.ArrayView.span.Goals as goal

pub overflow_mul-result : goal.overflow_mul-result
overflow_mul-result c =
    let below = subst (λ (v : View). c.args.row < rows_of v) (sym c.self.view_is) c.requires.row.below in
    omega (arith, first_item c.self.inside.parts.layout c.in-FixedLists.size (top_in c.self.inside.parts) (views c.self.inside.children.items) c.args.row c.in-FixedLists.is c.self.invariant.sound.stands below)
