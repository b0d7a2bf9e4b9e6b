use Rattle.std.proofs.Common.{◌≡◌, true, false, sym, subst, IfOk, Some, to_z, of_z, ℤ, w64}
use Rattle.std.proofs.lemmas.Int.{to_z-of_z}
use Rattle.arrow_spec.specs.Kinds.{same}
use Rattle.ipc_view.specs.Batches.{views_before}
use Rattle.ipc_view.specs.Dictionaries.{shown_in}
use Rattle.ipc_view.proofs.dictionary_batches.hold.Goals as goal

pub returns-then-contains_key-clause-here : goal.returns-then-contains_key-clause-here
returns-then-contains_key-clause-here c =
    let e : to_z w64 (of_z w64 c.args.id) ≡ c.args.id = to_z-of_z w64 c.args.id c.ranges.id in
    subst (λ b. IfOk c.append.result (λ x. shown_in c.append.new.dictionaries c.args.id ≡ Some (views_before b (shown_in c.args.dictionaries.now c.args.id) c.args.part))) (sym c.if-is_delta.true)
    (subst (λ z. IfOk c.append.result (λ x. shown_in c.append.new.dictionaries z ≡ Some (views_before true (shown_in c.args.dictionaries.now z) c.args.part))) e c.append.ensures.here)

pub returns-then-contains_key-clause-others : goal.returns-then-contains_key-clause-others
returns-then-contains_key-clause-others c =
    let e : to_z w64 (of_z w64 c.args.id) ≡ c.args.id = to_z-of_z w64 c.args.id c.ranges.id in
    subst (λ z. (q : ℤ) → same z q ≡ false → shown_in c.append.new.dictionaries q ≡ shown_in c.args.dictionaries.now q) e c.append.ensures.others
