use Rattle.std.proofs.Common.{◌≡◌, arith, rules}
use Rattle.view_types.specs.Views.{layout_of}
use Rattle.view_types.specs.declared.layout.Layout.TheVariants.{Struct}
use Rattle.run_views.proofs.Children.{child_smaller}
use Rattle.run_views.proofs.rows.+rows.Goals as goal

pub show_struct-show_row-requires : goal.show_struct-show_row-requires
show_struct-show_row-requires t c =
    let smaller = child_smaller c.args.view.now c.loop-i.i-counter c.child.result.now c.child.ensures.child in
    let layout : layout_of c.args.view.now ≡ Struct = search rules in
    let rows = c.child.ensures.rows layout in
    (omega (arith, smaller), omega (arith, rows))

pub show_span-show_rows-requires : goal.show_span-show_rows-requires
show_span-show_rows-requires t c =
    let smaller = child_smaller c.args.view.now c.child_rows-child.result.0 c.child.result.now c.child.ensures.child in
    (omega (arith, smaller), c.child_rows-child.ensures.within c.child.result.now c.child.ensures.child)
