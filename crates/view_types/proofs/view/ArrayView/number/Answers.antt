use Rattle.std.proofs.Common.{◌≡◌, ◌<◌, ◌∙◌, sym, ap, subst}
use Rattle.std.proofs.lemmas.Int.{to_z-of_z}
use Rattle.std.specs.Int.{w128}
use Rattle.view_types.specs.Tops.{top_in}
use Rattle.view_types.specs.Views.{View, integer_of, layout_of, number_there, order_of, part_in, place_of, rows_of, top_of, views}
use Rattle.view_types.proofs.Places.{stands_there}
use Rattle.view_types.proofs.view.ArrayView.number.Goals as goal

pub returns-clause-stands : goal.returns-clause-stands
returns-clause-stands c =
    let i = c.in-Number.integer in
    let row = c.args.row in
    let below = subst (λ (v : View). row < rows_of v) (sym c.self.view_is) c.requires.row.below in
    to_z-of_z w128 c.integer_at.result (record { sfits = c.integer_at.type_inv }) ∙ c.integer_at.ensures ∙ ap (λ b. integer_of b (order_of c.self.inside.parts.is_big_endian) i row) c.first_part.ensures.part
    ∙ subst (λ (v : View). integer_of (part_in c.self.inside.parts.input.now c.self.inside.parts.first) (order_of c.self.inside.parts.is_big_endian) i row ≡ number_there (layout_of v) (top_of v) (place_of v row)) c.self.view_is
    (stands_there c.self.inside.parts.layout (top_in c.self.inside.parts) (views c.self.inside.children.items) i row c.in-Number.is c.self.invariant.sound.stands below)
