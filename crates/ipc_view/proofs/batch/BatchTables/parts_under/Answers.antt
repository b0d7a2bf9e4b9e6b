use Rattle.std.proofs.Common.{◌≡◌, Some, None, ap, sym, ◌∙◌, to_z, of_z, w64, ℤ}
use Rattle.std.specs.BTreeMap.{get}
use Rattle.std.specs.Option.{option_copied, option_map}
use Rattle.std.specs.Ordering.{int_cmp}
use Rattle.std.proofs.lemmas.Int.{to_z-of_z}
use Rattle.ipc_view.specs.Dictionaries.{parts_or_none, shown_in}
use Rattle.ipc_view.proofs.batch.BatchTables.parts_under.Goals as goal

pub returns-in_ok-clone_each-in-Some-clause-parts : goal.returns-in_ok-clone_each-in-Some-clause-parts
returns-in_ok-clone_each-in-Some-clause-parts c =
    let i : ℤ = to_z w64 (of_z w64 c.args.id) in
    let e : i ≡ c.args.id = to_z-of_z w64 c.args.id c.ranges.id in
    let m = c.args.self.now.dictionaries.now in
    let told : Some c.in-Some.parts.now ≡ get int_cmp m i = sym (ap option_copied c.in-Some.is) ∙ c.get.ensures.value in
    let here : shown_in m c.args.id ≡ Some c.in-Some.parts.now.items = ap (shown_in m) (sym e) ∙ ap (option_map (λ v. v.items)) (sym told) in
    c.in_ok-clone_each-in-Some.ensures ∙ c.as_slice.ensures.value ∙ ap parts_or_none (sym here)

pub returns-in-None-clause-parts : goal.returns-in-None-clause-parts
returns-in-None-clause-parts c =
    let i : ℤ = to_z w64 (of_z w64 c.args.id) in
    let e : i ≡ c.args.id = to_z-of_z w64 c.args.id c.ranges.id in
    let m = c.args.self.now.dictionaries.now in
    let told : None ≡ get int_cmp m i = sym (ap option_copied c.in-None.is) ∙ c.get.ensures.value in
    let here : shown_in m c.args.id ≡ None = ap (shown_in m) (sym e) ∙ ap (option_map (λ v. v.items)) (sym told) in
    c.new.ensures.items ∙ ap parts_or_none (sym here)
