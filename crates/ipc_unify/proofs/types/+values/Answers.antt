use Rattle.std.proofs.Common.{◌≡◌, ◌∙◌, ◌++◌, ◌∷◌, [], map, sym, ap, rules}
use Rattle.arrow_types.specs.Child.{one_field}
use Rattle.arrow_types.specs.KindOf.{child_of, kind_of}
use Rattle.arrow_types.proofs.DataTypes.{kind_of_Dictionary, kind_of_FixedSizeList, kind_of_Map}
use Rattle.laws_unify.specs.United.{kinds_of, values_kinds}
use Rattle.ipc_unify.proofs.TypeSteps.{grown_as, grown_twice, next_values, one_values}
use Rattle.ipc_unify.proofs.types.+values.Goals as goal

pub push_values-returns-in-FixedSizeList : goal.push_values-returns-in-FixedSizeList
push_values-returns-in-FixedSizeList t c =
    let k = ap kind_of c.in-FixedSizeList.is ∙ kind_of_FixedSizeList c.in-FixedSizeList.child c.in-FixedSizeList.field-1 in
    let d = c.deref-in-FixedSizeList in
    grown_as c.push_values-in-FixedSizeList.result _ (map kind_of c.args.types.now.items) _ _ (one_values d.result.now ∙ ap (λ x. values_kinds (one_field (child_of x))) d.ensures ∙ ap kinds_of (sym k)) c.push_values-in-FixedSizeList.ensures

pub push_values-returns-in-Map : goal.push_values-returns-in-Map
push_values-returns-in-Map t c =
    let k = ap kind_of c.in-Map.is ∙ kind_of_Map c.in-Map.child c.in-Map.field-1 in
    let d = c.deref-in-Map in
    grown_as c.push_values-in-Map.result _ (map kind_of c.args.types.now.items) _ _ (one_values d.result.now ∙ ap (λ x. values_kinds (one_field (child_of x))) d.ensures ∙ ap kinds_of (sym k)) c.push_values-in-Map.ensures

pub push_under-loop-field-preserved : goal.push_under-loop-field-preserved
push_under-loop-field-preserved t c = next_values c.args.fields.now c.loop-field.field-index (map kind_of c.loop-field.types.items) _ _ c.field-item.result c.loop-field-test.true c.field-item.is c.in_ok-push_values.ensures c.loop-field.invariant
