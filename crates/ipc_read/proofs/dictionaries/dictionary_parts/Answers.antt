use Rattle.std.proofs.Common.{◌≡◌, Some, None, ap, sym, ◌∙◌, subst, IfOk, to_z, of_z, w64}
use Rattle.std.specs.Option.{option_map}
use Rattle.std.proofs.lemmas.Int.{to_z-of_z}
use Rattle.arrow_types.specs.KindOf.{kind_of}
use Rattle.arrow_arrays.specs.PartsOf.{forest_of}
use Rattle.ipc_read_laws.specs.PartsRead.{parts_or_empty}
use Rattle.ipc_read.specs.Held.{held_in}
use Rattle.ipc_read.proofs.dictionaries.dictionary_parts.Goals as goal

pub returns-in-Some-clause-parts : goal.returns-in-Some-clause-parts
returns-in-Some-clause-parts c =
    let e : to_z w64 (of_z w64 c.args.id) ≡ c.args.id = to_z-of_z w64 c.args.id c.ranges.id in
    let here : held_in c.args.dictionaries.now c.args.id ≡ Some (forest_of c.as_slice.result.now) =
    ap (held_in c.args.dictionaries.now) (sym e) ∙ ap (option_map (λ v. forest_of v.items)) (sym c.in-Some.ensures.value) ∙ ap (λ xs. Some (forest_of xs)) (sym c.as_slice.ensures.value) in
    subst (λ o. IfOk c.clone_parts.result (λ v. forest_of v.items ≡ parts_or_empty o (kind_of c.args.values.now))) (sym here) c.clone_parts.ensures.parts

pub returns-in-None-clause-parts : goal.returns-in-None-clause-parts
returns-in-None-clause-parts c =
    let e : to_z w64 (of_z w64 c.args.id) ≡ c.args.id = to_z-of_z w64 c.args.id c.ranges.id in
    let here : held_in c.args.dictionaries.now c.args.id ≡ None =
    ap (held_in c.args.dictionaries.now) (sym e) ∙ ap (option_map (λ v. forest_of v.items)) (sym c.in-None.ensures.value) in
    subst (λ o. IfOk c.empty_part.result (λ v. forest_of v.items ≡ parts_or_empty o (kind_of c.args.values.now))) (sym here) c.empty_part.ensures.parts
