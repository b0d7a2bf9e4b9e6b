use Rattle.std.proofs.Common.{◌≡◌, ◌++◌, ◌∷◌, [], map, None, ap, sym, ◌∙◌}
use Rattle.arrow_spec.specs.Kinds.{uses_of, uses_in}
use Rattle.arrow_types.specs.Child.{one_field}
use Rattle.arrow_types.specs.KindOf.{kind_of, child_of}
use Rattle.ipc_fields.specs.IpcFields.{ids_of, kind_with, fields_with}
use Rattle.ipc_fields.specs.Uses.{use_in, use_as, id_under}
use Rattle.arrow_types.proofs.DataTypes.{kind_of_FixedSizeList, kind_of_Map, kind_of_Dictionary}
use Rattle.ipc_fields.proofs.Steps.{mapped_item}
use Rattle.ipc_fields.proofs.UseSteps.{one_use, grown_as, grown_twice, next_uses}
use Rattle.ipc_fields.proofs.uses.+uses.Goals as goal

pub push_uses-returns-in-FixedSizeList-clause-ok : goal.push_uses-returns-in-FixedSizeList-clause-ok
push_uses-returns-in-FixedSizeList-clause-ok t c =
    let below = ids_of c.args.fields.now in
    let k = ap kind_of c.in-FixedSizeList.is ∙ kind_of_FixedSizeList c.in-FixedSizeList.child c.in-FixedSizeList.field-1 in
    let d = c.deref-in-FixedSizeList in
    grown_as c.push_child-in-FixedSizeList.result _ (map use_in c.args.uses.now.items) _ _ (one_use (child_of d.result.now) below ∙ ap (λ x. uses_in (fields_with (one_field (child_of x)) below)) d.ensures ∙ ap (λ x. uses_of (kind_with x c.args.id below)) (sym k)) c.push_child-in-FixedSizeList.ensures.ok

pub push_uses-returns-in-Map-clause-ok : goal.push_uses-returns-in-Map-clause-ok
push_uses-returns-in-Map-clause-ok t c =
    let below = ids_of c.args.fields.now in
    let k = ap kind_of c.in-Map.is ∙ kind_of_Map c.in-Map.child c.in-Map.field-1 in
    let d = c.deref-in-Map in
    grown_as c.push_child-in-Map.result _ (map use_in c.args.uses.now.items) _ _ (one_use (child_of d.result.now) below ∙ ap (λ x. uses_in (fields_with (one_field (child_of x)) below)) d.ensures ∙ ap (λ x. uses_of (kind_with x c.args.id below)) (sym k)) c.push_child-in-Map.ensures.ok

pub push_uses-returns-in_ok-push_use-in-Dictionary-clause-ok : goal.push_uses-returns-in_ok-push_use-in-Dictionary-clause-ok
push_uses-returns-in_ok-push_use-in-Dictionary-clause-ok t c =
    let below = ids_of c.args.fields.now in
    let k = ap kind_of c.in-Dictionary.is ∙ kind_of_Dictionary c.in-Dictionary.field-0 c.in-Dictionary.values c.in-Dictionary.field-2 in
    let inner = kind_with (kind_of c.in-Dictionary.values.value) None below in
    let old = map use_in c.args.uses.now.items in
    let mid = map use_in c.push_use.new.uses.items in
    let first : mid ≡ old ++ use_as (id_under c.args.id) inner ∷ [] = c.in_ok-push_use-in-Dictionary.ensures.ok ∙ ap (λ x. old ++ use_as (id_under c.args.id) (kind_with (kind_of x) None below) ∷ []) c.deref-in-Dictionary.ensures in
    let second = grown_as c.push_uses.result _ mid _ (uses_of inner) (ap (λ x. uses_of (kind_with (kind_of x) None below)) c.deref-in-Dictionary-2.ensures) c.push_uses.ensures.ok in
    grown_as c.push_uses.result _ old (use_as (id_under c.args.id) inner ∷ uses_of inner) _ (ap (λ x. uses_of (kind_with x c.args.id below)) (sym k))
    (grown_twice c.push_uses.result _ mid old (use_as (id_under c.args.id) inner) (uses_of inner) first second)

pub push_children-loop-i-preserved : goal.push_children-loop-i-preserved
push_children-loop-i-preserved t c =
    let x = c.index-children-i.result in
    next_uses _ _ (child_of x) c.args.fields.now c.loop-i.i (map use_in c.loop-i.uses.items) _ _ (mapped_item child_of c.args.children.now c.loop-i.i x c.loop-i-test.true c.index-children-i.is) c.loop-i.invariant c.in_ok-push_child.ensures.ok
