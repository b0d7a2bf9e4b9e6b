use Rattle.std.proofs.Common.{◌≡◌, subst, arith}
use Rattle.view_types.specs.Views.{View, children_of, count_of, views}
use Rattle.view_types.proofs.Children.{count_is}
use Rattle.view_types.proofs.view.ArrayView.child_count.Goals as goal

pub returns : goal.returns
returns c =
    let h : c.len.result ≡ count_of (views c.self.inside.children.items) = omega (arith, c.len.ensures, count_is c.self.inside.children.items, c.self.inside.children.ok.0) in
    subst (λ (v : View). c.len.result ≡ count_of (children_of v)) c.self.view_is h
