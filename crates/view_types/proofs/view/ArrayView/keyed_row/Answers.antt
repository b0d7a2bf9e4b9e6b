use Rattle.std.proofs.Common.{◌≡◌, ◌<◌, length, true, sym, subst, ◌∙◌, arith}
use Rattle.view_types.specs.Sound.{ends_after}
use Rattle.view_types.specs.Spans.{IsInOrder}
use Rattle.view_types.specs.Tops.{top_in}
use Rattle.view_types.specs.Views.{View, is_valid, layout_of, rows_each, rows_of, views}
use Rattle.view_types.specs.declared.layout.Layout.TheVariants.{Dictionary}
use Rattle.view_types.proofs.Children.{count_is, rows_in_vector, rows_there}
use Rattle.view_types.proofs.Ends.{ends_rise}
use Rattle.view_types.proofs.Fits.{ends_known, keyed_fit, set_of}
use Rattle.view_types.proofs.view.ArrayView.keyed_row.Goals as goal

ends_are : (c : goal.After-as_slice) → c.self.inside.ends.items ≡ ends_after 0 (rows_each (views c.self.inside.children.items))
ends_are c =
    let lay = subst (λ (v : View). layout_of v ≡ Dictionary c.args.keys) (sym c.self.view_is) c.requires.layout in
    ends_known c.self.inside.parts.layout c.args.keys c.self.inside.ends.items (views c.self.inside.children.items) lay c.self.invariant.ends_are

pub part_at-part-requires : goal.part_at-part-requires
part_at-part-requires c = record { order = subst IsInOrder (sym (c.as_slice.ensures.value ∙ ends_are c)) (ends_rise 0 (rows_each (views c.self.inside.children.items))) }

pub index-requires : goal.index-requires
index-requires c =
    let layout = c.self.inside.parts.layout in
    let t = top_in c.self.inside.parts in
    let cs = views c.self.inside.children.items in
    let lay = subst (λ (v : View). layout_of v ≡ Dictionary c.args.keys) (sym c.self.view_is) c.requires.layout in
    let ends = ends_known layout c.args.keys c.self.inside.ends.items cs lay c.self.invariant.ends_are in
    let below = subst (λ (v : View). c.args.row < rows_of v) (sym c.self.view_is) c.requires.row.below in
    let set = subst (λ (v : View). is_valid v c.args.row ≡ true) (sym c.self.view_is) c.requires.row.valid in
    let fit = keyed_fit layout t cs c.args.row c.args.keys c.key-key.result c.part_at-part.result.0 c.part_at-part.result.1 lay c.self.invariant.sound.stands below (set_of layout t c.args.row set) c.key-key.ensures
    (c.part_at-part.ensures.part (rows_each cs) (c.as_slice.ensures.value ∙ ends)) (c.part_at-part.ensures.row (rows_each cs) (c.as_slice.ensures.value ∙ ends)) in
    omega (arith, rows_there cs c.part_at-part.result.0 (omega (arith, fit)), count_is c.self.inside.children.items, c.self.inside.children.ok.0)

pub prove-unreachable-requires : goal.prove-unreachable-requires
prove-unreachable-requires c =
    let layout = c.self.inside.parts.layout in
    let t = top_in c.self.inside.parts in
    let cs = views c.self.inside.children.items in
    let lay = subst (λ (v : View). layout_of v ≡ Dictionary c.args.keys) (sym c.self.view_is) c.requires.layout in
    let ends = ends_known layout c.args.keys c.self.inside.ends.items cs lay c.self.invariant.ends_are in
    let below = subst (λ (v : View). c.args.row < rows_of v) (sym c.self.view_is) c.requires.row.below in
    let set = subst (λ (v : View). is_valid v c.args.row ≡ true) (sym c.self.view_is) c.requires.row.valid in
    let fit = keyed_fit layout t cs c.args.row c.args.keys c.key-key.result c.part_at-part.result.0 c.part_at-part.result.1 lay c.self.invariant.sound.stands below (set_of layout t c.args.row set) c.key-key.ensures
    (c.part_at-part.ensures.part (rows_each cs) (c.as_slice.ensures.value ∙ ends)) (c.part_at-part.ensures.row (rows_each cs) (c.as_slice.ensures.value ∙ ends)) in
    let there : c.part_at-part.result.0 < length c.self.inside.children.items = omega (arith, rows_there cs c.part_at-part.result.0 (omega (arith, fit)), count_is c.self.inside.children.items) in
    omega (arith, fit, rows_in_vector c.self.inside.children.items c.part_at-part.result.0 c.index.result.now there c.index.ensures, c.len-rows.ensures, c.if-prove.true)
