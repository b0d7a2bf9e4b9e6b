use Rattle.std.proofs.Common.{◌≡◌, ◌∙◌, ◌+◌, suc, sym, ap, arith}
use Rattle.arrow_spec.specs.Kinds.{dictionary_count, dictionary_counts}
use Rattle.arrow_types.specs.Child.{one_field}
use Rattle.arrow_types.specs.KindOf.{child_of, kind_of}
use Rattle.arrow_types.proofs.DataTypes.{kind_of_Dictionary, kind_of_FixedSizeList, kind_of_Map}
use Rattle.ipc_unify.proofs.TypeSteps.{next_count, one_count, some_as}
use Rattle.ipc_unify.proofs.types.+count.Goals as goal

pub count_in-returns-in-FixedSizeList : goal.count_in-returns-in-FixedSizeList
count_in-returns-in-FixedSizeList t c =
    let k = ap kind_of c.in-FixedSizeList.is ∙ kind_of_FixedSizeList c.in-FixedSizeList.child c.in-FixedSizeList.field-1 in
    let d = c.deref-in-FixedSizeList in
    some_as c.count_in-in-FixedSizeList.result _ _ (one_count d.result.now ∙ ap (λ x. dictionary_counts (one_field (child_of x))) d.ensures ∙ ap dictionary_count (sym k)) c.count_in-in-FixedSizeList.ensures

pub count_in-returns-in-Map : goal.count_in-returns-in-Map
count_in-returns-in-Map t c =
    let k = ap kind_of c.in-Map.is ∙ kind_of_Map c.in-Map.child c.in-Map.field-1 in
    let d = c.deref-in-Map in
    some_as c.count_in-in-Map.result _ _ (one_count d.result.now ∙ ap (λ x. dictionary_counts (one_field (child_of x))) d.ensures ∙ ap dictionary_count (sym k)) c.count_in-in-Map.ensures
