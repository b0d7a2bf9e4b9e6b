use Rattle.std.proofs.Common.{◌≡◌, false, sym, subst, IfOk, Some, to_z, of_z, ℤ, w64}
use Rattle.std.proofs.lemmas.Int.{to_z-of_z}
use Rattle.arrow_spec.specs.Kinds.{same}
use Rattle.arrow_arrays.specs.PartsOf.{parts_of}
use Rattle.ipc_read.specs.DictionaryBatches.{parts_before}
use Rattle.ipc_read.specs.Held.{held_in}
use Rattle.ipc_read.proofs.dictionary_batches.hold.Goals as goal

pub returns-then-contains_key-clause-here : goal.returns-then-contains_key-clause-here
returns-then-contains_key-clause-here c =
    let e : to_z w64 (of_z w64 c.args.id) ≡ c.args.id = to_z-of_z w64 c.args.id c.ranges.id in
    subst (λ b. IfOk c.append.result (λ x. held_in c.append.new.dictionaries c.args.id ≡ Some (parts_before b (held_in c.args.dictionaries.now c.args.id) (parts_of c.args.part)))) (sym c.if-is_delta.true)
    (subst (λ z. IfOk c.append.result (λ x. held_in c.append.new.dictionaries z ≡ Some (parts_before Rattle.std.proofs.Common.true (held_in c.args.dictionaries.now z) (parts_of c.args.part)))) e c.append.ensures.here)

pub returns-then-contains_key-clause-others : goal.returns-then-contains_key-clause-others
returns-then-contains_key-clause-others c =
    let e : to_z w64 (of_z w64 c.args.id) ≡ c.args.id = to_z-of_z w64 c.args.id c.ranges.id in
    subst (λ z. (q : ℤ) → same z q ≡ false → held_in c.append.new.dictionaries q ≡ held_in c.args.dictionaries.now q) e c.append.ensures.others
