use Rattle.std.proofs.Common.{◌≡◌, ◌&&◌, ◌∙◌, sym, ap, length, rules}
use Rattle.arrow_types.specs.KindOf.{fields_of, ids_of}
use Rattle.arrow_types.specs.UnionIds.{are_right}
use Rattle.arrow_types.specs.declared.data_type.UnionType.{out-UnionType}
use Rattle.arrow_arrays.specs.Heads.{are_of}
use Rattle.arrow_arrays.specs.Parts.{kinds_each}
use Rattle.arrow_arrays.specs.PartsOf.{forest_of}
use Rattle.arrow_arrays.proofs.UnionPlaces.{union_is}
use Rattle.arrow_arrays.proofs.union.is_union_of.Goals as goal

pub returns-then-not-is_mode : goal.returns-then-not-is_mode
returns-then-not-is_mode c =
    let u = out-UnionType c.args.union.now in
    let n = length u.fields.items in
    let ks = kinds_each (forest_of c.args.fields.now) in
    sym (union_is c.args.union.now c.args.is_dense ks ∙ ap (λ b. (b && are_right (ids_of u.ids n) n) && are_of (fields_of u.fields.items) ks) (sym c.is_mode.ensures ∙ c.if-not-is_mode.true))

pub returns-then-not-has_right_ids : goal.returns-then-not-has_right_ids
returns-then-not-has_right_ids c =
    let u = out-UnionType c.args.union.now in
    let n = length u.fields.items in
    let ks = kinds_each (forest_of c.args.fields.now) in
    let count : c.len.result ≡ n = search rules in
    sym (union_is c.args.union.now c.args.is_dense ks
    ∙ ap (λ b. (b && are_right (ids_of u.ids n) n) && are_of (fields_of u.fields.items) ks) (sym c.is_mode.ensures ∙ c.if-not-is_mode.false)
    ∙ ap (λ b. b && are_of (fields_of u.fields.items) ks) (ap (λ k. are_right (ids_of u.ids k) k) (sym count) ∙ sym c.has_right_ids.ensures ∙ c.if-not-has_right_ids.true))

pub returns : goal.returns
returns c =
    let u = out-UnionType c.args.union.now in
    let n = length u.fields.items in
    let ks = kinds_each (forest_of c.args.fields.now) in
    let count : c.len.result ≡ n = search rules in
    c.are_under.ensures ∙ ap (λ fs. are_of (fields_of fs) ks) c.as_slice.ensures.value
    ∙ sym (union_is c.args.union.now c.args.is_dense ks
    ∙ ap (λ b. (b && are_right (ids_of u.ids n) n) && are_of (fields_of u.fields.items) ks) (sym c.is_mode.ensures ∙ c.if-not-is_mode.false)
    ∙ ap (λ b. b && are_of (fields_of u.fields.items) ks) (ap (λ k. are_right (ids_of u.ids k) k) (sym count) ∙ sym c.has_right_ids.ensures ∙ c.if-not-has_right_ids.false))
