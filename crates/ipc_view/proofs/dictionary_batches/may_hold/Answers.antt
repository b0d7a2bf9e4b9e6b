use Rattle.std.proofs.Common.{◌≡◌, ◌||◌, not, is_some, ap, sym, ◌∙◌, to_z, of_z, w64}
use Rattle.std.specs.BTreeMap.{get}
use Rattle.std.specs.Ordering.{int_cmp}
use Rattle.std.proofs.lemmas.Int.{to_z-of_z}
use Rattle.ipc_view.proofs.dictionary_batches.may_hold.Goals as goal

pub returns-else-is_delta : goal.returns-else-is_delta
returns-else-is_delta c =
    let e : to_z w64 (of_z w64 c.args.id) ≡ c.args.id = to_z-of_z w64 c.args.id c.ranges.id in
    ap not (c.contains_key.ensures ∙ ap (λ z. is_some (get int_cmp c.args.dictionaries.now z)) e)
    ∙ sym (ap (λ b. b || not (is_some (get int_cmp c.args.dictionaries.now c.args.id))) c.if-is_delta.false)
