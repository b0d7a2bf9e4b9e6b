use Rattle.std.proofs.Common.{◌≡◌, ◌≤◌, [], ◌∷◌, ◌++◌, map, drop, length, ap, ◌∙◌, arith, rules}
use Rattle.std.proofs.lemmas.List.{at_drop_all, map-append}
use Rattle.arrow_flat.specs.Nodes.{node_of}
use Rattle.arrow_types.specs.KindOf.{child_of, kind_of}
use Rattle.arrow_types.specs.declared.data_type.ArrowDataType.{the_lemmas as type_lemmas}
use Rattle.ipc_fields.specs.IpcFields.{ids_of}
use Rattle.schema_writer.specs.Nodes.{field_table}
use Rattle.schema_writer.specs.Tables.{below_nodes}
use Rattle.ipc_fields.specs.Uses.{first_ids, first_id}
use Rattle.ipc_fields.proofs.Steps.{mapped_item}
use Rattle.schema_writer.proofs.Building.{node_next, nodes_done, sized_at}
use Rattle.schema_writer.proofs.Texts.{extension_said, field_texts, texts_more, texts_done, textless_said, timestamp_said}
use Rattle.schema_writer.proofs.write.fields.+nodes.Goals as goal

pub field_nodes-loop-i-preserved : goal.field_nodes-loop-i-preserved
field_nodes-loop-i-preserved t c =
    let x = c.index-fields-i.result in
    let n = c.in_ok-field_node.field-0 in
    let own = ids_of (drop c.loop-i.i c.args.below.now) in
    let first = mapped_item child_of c.args.fields.now c.loop-i.i x c.loop-i-test.true c.index-fields-i.is in
    let pushed : map node_of c.push.new.self.items ≡ map node_of c.loop-i.nodes.items ++ node_of n ∷ [] = ap (map node_of) c.in_ok-push.ensures.items ∙ map-append node_of c.loop-i.nodes.items (n ∷ []) in
    let made : node_of n ≡ field_table (child_of x) (first_id own) (below_nodes (child_of x).kind (first_ids own)) =
    c.in_ok-field_node.ensures.node ∙ ap (λ z. field_table (child_of x) z (below_nodes (child_of x).kind (ids_of c.fields_at.result.now))) c.id_at.ensures.id ∙ ap (λ z. field_table (child_of x) (first_id own) (below_nodes (child_of x).kind z)) c.fields_at.ensures in
    record {
      fit = (sized_at _ _ (child_of x) first c.loop-i.invariant.fit).1;
      nodes = node_next _ _ (child_of x) c.args.below.now c.loop-i.i (map node_of c.loop-i.nodes.items) (map node_of c.push.new.self.items) (node_of n) _ first pushed made c.loop-i.invariant.nodes;
      texts = texts_more _ _ (child_of x) _ first c.in_ok-field_node.ensures.texts c.loop-i.invariant.texts;
    }

pub field_nodes-returns-clause-nodes : goal.field_nodes-returns-clause-nodes
field_nodes-returns-clause-nodes t c =
    let le : length c.args.fields.now ≤ c.loop-i.i = omega (arith, c.loop-i-test.false) in
    nodes_done _ (ids_of (drop c.loop-i.i c.args.below.now)) (map node_of c.loop-i.nodes.items) _ (at_drop_all (map child_of) c.args.fields.now c.loop-i.i le) c.loop-i.invariant.nodes

pub field_nodes-returns-clause-texts : goal.field_nodes-returns-clause-texts
field_nodes-returns-clause-texts t c =
    let le : length c.args.fields.now ≤ c.loop-i.i = omega (arith, c.loop-i-test.false) in
    texts_done _ _ (at_drop_all (map child_of) c.args.fields.now c.loop-i.i le) c.loop-i.invariant.texts

pub field_node-returns-clause-texts : goal.field_node-returns-clause-texts
field_node-returns-clause-texts t c = field_texts c.args.field.now c.in_ok-children.ensures.texts c.in_ok-field_table.ensures.ascend

pub child_nodes-returns-in-Extension-clause-texts : goal.child_nodes-returns-in-Extension-clause-texts
child_nodes-returns-in-Extension-clause-texts t c =
    extension_said c.args.t.now c.in-Extension.e c.deref-in-Extension.result.now c.child_nodes-in-Extension.result c.in-Extension.is c.deref-in-Extension.ensures c.child_nodes-in-Extension.ensures.texts

pub child_nodes-returns-in_default-clause-texts : goal.child_nodes-returns-in_default-clause-texts
child_nodes-returns-in_default-clause-texts t c = textless_said (kind_of c.args.t.now) (search (rules, type_lemmas))

pub child_nodes-returns-in-Timestamp-clause-texts : goal.child_nodes-returns-in-Timestamp-clause-texts
child_nodes-returns-in-Timestamp-clause-texts t c = timestamp_said c.args.t.now _ _ c.in-Timestamp.is
