use Rattle.std.proofs.Common.{◌≡◌, ap, not, ◌∙◌, to_z, of_z, w64}
use Rattle.std.specs.BTreeMap.{get}
use Rattle.std.specs.Option.{is_some}
use Rattle.std.specs.Ordering.{int_cmp}
use Rattle.std.proofs.lemmas.Int.{to_z-of_z}
use Rattle.ipc_view.proofs.HeldViews.{absent_is}
use Rattle.ipc_view.proofs.batch.BatchTables.is_absent.Goals as goal

pub returns : goal.returns
returns c =
    let m = c.args.self.now.dictionaries.now in
    let e : to_z w64 (of_z w64 c.args.id) ≡ c.args.id = to_z-of_z w64 c.args.id c.ranges.id in
    ap not (c.contains_key.ensures ∙ ap (λ z. is_some (get int_cmp m z)) e) ∙ absent_is (get int_cmp m c.args.id)
