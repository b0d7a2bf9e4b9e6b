use Rattle.std.proofs.Common.{ap, sym, ◌∙◌}
use Rattle.arrow_spec.specs.SchemaText.{child_lines, field_lines}
use Rattle.arrow_types.specs.Child.{one_field}
use Rattle.arrow_types.specs.KindOf.{kind_of, child_of}
use Rattle.arrow_types.proofs.DataTypes.{kind_of_List, kind_of_LargeList, kind_of_FixedSizeList, kind_of_Map}
use Rattle.ipc_fields.proofs.Steps.{mapped_item}
use Rattle.ipc_fields.specs.IpcFields.{ids_of, kind_with, fields_with}
use Rattle.ipc_text.proofs.Growing.{grown_as}
use Rattle.ipc_text.proofs.LineSteps.{one_line, next_lines}
use Rattle.ipc_text.proofs.lines.+lines.Goals as goal

pub push_children-returns-in-List : goal.push_children-returns-in-List
push_children-returns-in-List t c =
    let own = ids_of c.args.ipc_fields.now in
    let level = c.args.level in
    let k = ap kind_of c.in-List.is ∙ kind_of_List c.in-List.child in
    let d = c.deref in
    let r = c.push_field in
    grown_as r.result c.args.out.now.items r.new.out.items _ _ (one_line level (child_of d.result.now) own ∙ ap (λ x. field_lines level (fields_with (one_field (child_of x)) own)) d.ensures ∙ ap (λ x. child_lines level (kind_with x c.args.id own)) (sym k)) r.ensures

pub push_children-returns-in-LargeList : goal.push_children-returns-in-LargeList
push_children-returns-in-LargeList t c =
    let own = ids_of c.args.ipc_fields.now in
    let level = c.args.level in
    let k = ap kind_of c.in-LargeList.is ∙ kind_of_LargeList c.in-LargeList.child in
    let d = c.deref-in-LargeList in
    let r = c.push_field-in-LargeList in
    grown_as r.result c.args.out.now.items r.new.out.items _ _ (one_line level (child_of d.result.now) own ∙ ap (λ x. field_lines level (fields_with (one_field (child_of x)) own)) d.ensures ∙ ap (λ x. child_lines level (kind_with x c.args.id own)) (sym k)) r.ensures

pub push_children-returns-in-FixedSizeList : goal.push_children-returns-in-FixedSizeList
push_children-returns-in-FixedSizeList t c =
    let own = ids_of c.args.ipc_fields.now in
    let level = c.args.level in
    let k = ap kind_of c.in-FixedSizeList.is ∙ kind_of_FixedSizeList c.in-FixedSizeList.child c.in-FixedSizeList.field-1 in
    let d = c.deref-in-FixedSizeList in
    let r = c.push_field-in-FixedSizeList in
    grown_as r.result c.args.out.now.items r.new.out.items _ _ (one_line level (child_of d.result.now) own ∙ ap (λ x. field_lines level (fields_with (one_field (child_of x)) own)) d.ensures ∙ ap (λ x. child_lines level (kind_with x c.args.id own)) (sym k)) r.ensures

pub push_children-returns-in-Map : goal.push_children-returns-in-Map
push_children-returns-in-Map t c =
    let own = ids_of c.args.ipc_fields.now in
    let level = c.args.level in
    let k = ap kind_of c.in-Map.is ∙ kind_of_Map c.in-Map.child c.in-Map.field-1 in
    let d = c.deref-in-Map in
    let r = c.push_field-in-Map in
    grown_as r.result c.args.out.now.items r.new.out.items _ _ (one_line level (child_of d.result.now) own ∙ ap (λ x. field_lines level (fields_with (one_field (child_of x)) own)) d.ensures ∙ ap (λ x. child_lines level (kind_with x c.args.id own)) (sym k)) r.ensures

pub push_fields-loop-i-preserved : goal.push_fields-loop-i-preserved
push_fields-loop-i-preserved t c =
    let x = c.index-children-i.result in
    next_lines c.args.level _ _ (child_of x) c.args.ipc_fields.now c.loop-i.i c.loop-i.out.items c.push_field.new.out.items _ (mapped_item child_of c.args.children.now c.loop-i.i x c.loop-i-test.true c.index-children-i.is) c.in_ok-push_field.ensures c.loop-i.invariant
