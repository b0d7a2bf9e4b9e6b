use Rattle.std.proofs.Common.{◌≡◌, ◌<◌, ◌∙◌, sym, ap, subst, length, pos, get_or, rules, SFits, to_z, of_z}
use Rattle.std.specs.Int.{w8}
use Rattle.std.proofs.lemmas.Int.{to_z-of_z}
use Rattle.arrow_spec.specs.Arrays.{id_place, or_0}
use Rattle.arrow_types.specs.KindOf.{kind_of}
use Rattle.arrow_arrays.specs.Heads.{Tagged, ids_in, number_at, child_place}
use Rattle.arrow_arrays.specs.Parts.{rows_each}
use Rattle.arrow_arrays.specs.PartsOf.{forest_of}
use Rattle.arrow_arrays.proofs.SameRows.{told_at}
use Rattle.arrow_arrays.proofs.UnionPlaces.{child_there}
use Rattle.arrow_arrays.proofs.array.UnionArray.index.Goals as goal

pub returns-clause-there : goal.returns-clause-there
returns-clause-there c =
    let i = c.self.inside in
    let top : Tagged = record { kind = kind_of i.dtype; types = i.types; offsets = i.offsets } in
    let below : c.args.row < length i.types = rw (← c.self.view_is) at c.requires in
    let fits : SFits w8 c.get.result = search rules in
    let t : number_at i.types c.args.row ≡ to_z w8 (of_z w8 c.get.result) = told_at i.types c.args.row (pos 0) c.get.result c.get.ensures ∙ sym (to_z-of_z w8 c.get.result fits) in
    let e : or_0 (id_place (ids_in (kind_of i.dtype)) (number_at i.types c.args.row)) ≡ c.child_or_first-child.result = ap (λ x. or_0 (id_place (ids_in (kind_of i.dtype)) x)) t ∙ sym c.child_or_first-child.ensures in
    rw (← c.self.view_is) (subst (λ k. k < length (rows_each (forest_of i.fields.items))) e (child_there top i.fields.items c.args.row c.self.invariant below).0)

pub returns-clause-within : goal.returns-clause-within
returns-clause-within c =
    let i = c.self.inside in
    let top : Tagged = record { kind = kind_of i.dtype; types = i.types; offsets = i.offsets } in
    let below : c.args.row < length i.types = rw (← c.self.view_is) at c.requires in
    let fits : SFits w8 c.get.result = search rules in
    let t : number_at i.types c.args.row ≡ to_z w8 (of_z w8 c.get.result) = told_at i.types c.args.row (pos 0) c.get.result c.get.ensures ∙ sym (to_z-of_z w8 c.get.result fits) in
    let e : or_0 (id_place (ids_in (kind_of i.dtype)) (number_at i.types c.args.row)) ≡ c.child_or_first-child.result = ap (λ x. or_0 (id_place (ids_in (kind_of i.dtype)) x)) t ∙ sym c.child_or_first-child.ensures in
    let w = (child_there top i.fields.items c.args.row c.self.invariant below).1 in
    rw (← c.self.view_is, c.place_of-place.ensures) (subst (λ k. child_place i.offsets c.args.row < get_or (rows_each (forest_of i.fields.items)) k 0) e w)
