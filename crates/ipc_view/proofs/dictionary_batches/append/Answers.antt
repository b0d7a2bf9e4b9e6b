use Rattle.std.proofs.Common.{◌≡◌, true, false, Some, ap, sym, ◌∙◌, subst, to_z, of_z, ℤ, w64}
use Rattle.std.specs.BTreeMap.{get}
use Rattle.std.specs.Option.{is_some, option_copied_mut}
use Rattle.std.specs.Ordering.{int_cmp}
use Rattle.std.proofs.lemmas.Int.{to_z-of_z}
use Rattle.ipc_view.specs.Batches.{views_before}
use Rattle.ipc_view.specs.Dictionaries.{shown_in}
use Rattle.ipc_view.proofs.DictionaryViews.{appended}
use Rattle.ipc_view.proofs.dictionary_batches.append.Goals as goal

pub unreachable-requires : goal.unreachable-requires
unreachable-requires c =
    let e : to_z w64 (of_z w64 c.args.id) ≡ c.args.id = to_z-of_z w64 c.args.id c.ranges.id in
    let none : false ≡ is_some (get int_cmp c.args.dictionaries.now c.args.id) = ap is_some (sym (ap option_copied_mut c.in-None.is) ∙ c.get_mut.ensures.value) ∙ ap (λ z. is_some (get int_cmp c.args.dictionaries.now z)) e in
    let no : false ≡ true = none ∙ c.requires.held in
    cc

pub returns-clause-here : goal.returns-clause-here
returns-clause-here c =
    let i : ℤ = to_z w64 (of_z w64 c.args.id) in
    let e : i ≡ c.args.id = to_z-of_z w64 c.args.id c.ranges.id in
    let m = c.args.dictionaries.now in
    let n = c.get_mut.follows.lender c.push.new.self in
    let told : Some c.in-Some.parts.now ≡ get int_cmp m i = sym (ap option_copied_mut c.in-Some.is) ∙ c.get_mut.ensures.value in
    let some : is_some (get int_cmp m i) ≡ true = sym (ap is_some told) in
    let new : get int_cmp n i ≡ Some c.push.new.self = ((c.get_mut.follows.holds c.push.new.self).3 some).1 in
    subst (λ z. shown_in n z ≡ Some (views_before true (shown_in m z) c.args.part)) e (appended m n i c.in-Some.parts.now c.push.new.self c.args.part told new c.in_ok-push-in-Some.ensures.items)
