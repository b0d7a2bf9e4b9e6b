use Rattle.std.proofs.Common.{◌≤◌, length, sym, ap, ◌∙◌, arith}
use Rattle.arrow_types.specs.KindOf.{ids_of}
use Rattle.arrow_types.specs.UnionIds.{are_right}
use Rattle.ipc_view.proofs.UnionKinds.{few_counted}
use Rattle.ipc_view.proofs.unions.union_ids.Goals as goal

pub counted_ids-requires : goal.counted_ids-requires
counted_ids-requires c =
    let n = length c.args.union.now.children.now in
    let few : n ≤ 128 = few_counted n (sym (ap (λ ids. are_right (ids_of ids n) n) c.in-None.is) ∙ c.requires) in
    omega (arith, few)
