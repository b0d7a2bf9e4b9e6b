use Rattle.std.proofs.Common.{◌≡◌, None, Some, ap, sym, ◌∙◌, w64}
use Rattle.std.specs.BTreeMap.{get}
use Rattle.std.specs.Option.{option_map, option_copied}
use Rattle.std.specs.Ordering.{int_cmp}
use Rattle.std.proofs.lemmas.Int.{to_z-of_z}
use Rattle.arrow_types.specs.KindOf.{kind_of}
use Rattle.arrow_arrays.specs.Heads.{values_kind}
use Rattle.arrow_arrays.specs.PartsOf.{forest_of}
use Rattle.ipc_dictionaries.specs.Standing.{standing}
use Rattle.ipc_dictionaries.proofs.tracker.DictionaryTracker.standing.Goals as goal

pub returns-in-None : goal.returns-in-None
returns-in-None c =
    let m = c.args.self.now.dictionaries in
    let told : None ≡ get int_cmp m c.args.id = sym (ap option_copied c.in-None.is) ∙ c.get.ensures.value ∙ ap (λ z. get int_cmp m z) (to_z-of_z w64 c.args.id c.ranges.id) in
    ap (λ o. standing (option_map (λ v. forest_of v.items) o) (values_kind c.args.dictionary.now.head.kind) c.args.dictionary.now.children) told

pub returns-in-Some : goal.returns-in-Some
returns-in-Some c =
    let m = c.args.self.now.dictionaries in
    let d = c.args.dictionary.now in
    let held = c.in-Some.held.now in
    let told : Some held ≡ get int_cmp m c.args.id = sym (ap option_copied c.in-Some.is) ∙ c.get.ensures.value ∙ ap (λ z. get int_cmp m z) (to_z-of_z w64 c.args.id c.ranges.id) in
    c.standing_to.ensures
    ∙ ap (λ xs. standing (Some (forest_of xs)) (values_kind (kind_of c.dtype.result.now)) (forest_of c.parts.result.now)) c.as_slice.ensures.value
    ∙ ap (λ k. standing (Some (forest_of held.items)) (values_kind k) (forest_of c.parts.result.now)) c.dtype.ensures
    ∙ ap (λ f. standing (Some (forest_of held.items)) (values_kind d.head.kind) f) c.parts.ensures
    ∙ ap (λ o. standing (option_map (λ v. forest_of v.items) o) (values_kind d.head.kind) d.children) told
