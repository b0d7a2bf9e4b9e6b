use Rattle.std.proofs.Common.{◌≡◌, ◌||◌, ap, sym, ◌∙◌, to_z, of_z, w64}
use Rattle.std.proofs.lemmas.Int.{to_z-of_z}
use Rattle.arrow_spec.specs.Kinds.{same}
use Rattle.ipc_dictionaries.specs.Used.{used_by}
use Rattle.ipc_dictionaries.proofs.Ids.{already, put_one}
use Rattle.ipc_dictionaries.proofs.used.UsedIds.add.Goals as goal

pub returns-then-contains-clause-used : goal.returns-then-contains-clause-used
returns-then-contains-clause-used c = λ q. already (used_by c.args.self.now) c.args.id q (ap (used_by c.args.self.now) (sym (to_z-of_z w64 c.args.id c.ranges.id)) ∙ sym c.contains.ensures ∙ c.if-contains.true)

pub returns-clause-used : goal.returns-clause-used
returns-clause-used c = λ q.
    let e : to_z w64 (of_z w64 c.args.id) ≡ c.args.id = to_z-of_z w64 c.args.id c.ranges.id in
    c.in_ok-_is_new.ensures.updates.0 q ∙ put_one (to_z w64 (of_z w64 c.args.id)) q (used_by c.args.self.now q) ∙ ap (λ z. used_by c.args.self.now q || same z q) e
