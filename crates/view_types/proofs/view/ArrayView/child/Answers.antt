use Rattle.std.proofs.Common.{◌≡◌, ◌<◌, sym, subst, Some, arith}
use Rattle.view_types.specs.declared.layout.Layout.TheVariants.{Struct}
use Rattle.view_types.specs.Tops.{top_in}
use Rattle.view_types.specs.Views.{View, child_at, children_of, count_of, layout_of, rows_of, views}
use Rattle.view_types.proofs.Children.{child_is, count_is}
use Rattle.view_types.proofs.Fits.{struct_rows}
use Rattle.view_types.proofs.view.ArrayView.child.Goals as goal

pub index-requires : goal.index-requires
index-requires c =
    let below = subst (λ (v : View). c.args.i < count_of (children_of v)) (sym c.self.view_is) c.requires in
    omega (arith, below, count_is c.self.inside.children.items, c.self.inside.children.ok.0)

pub returns-clause-child : goal.returns-clause-child
returns-clause-child c = subst (λ (v : View). child_at (children_of v) c.args.i ≡ Some c.index.result.now) c.self.view_is
    (child_is c.self.inside.children.items c.args.i c.index.result.now (subst (λ (v : View). c.args.i < count_of (children_of v)) (sym c.self.view_is) c.requires) c.index.ensures)

pub returns-clause-rows : goal.returns-clause-rows
returns-clause-rows c =
    let t = top_in c.self.inside.parts in
    let at = child_is c.self.inside.children.items c.args.i c.index.result.now (subst (λ (v : View). c.args.i < count_of (children_of v)) (sym c.self.view_is) c.requires) c.index.ensures in
    subst (λ (v : View). layout_of v ≡ Struct → rows_of c.index.result.now ≡ rows_of v) c.self.view_is
    (λ is. struct_rows t.layout t (views c.self.inside.children.items) c.args.i c.index.result.now is c.self.invariant.sound.stands at)
