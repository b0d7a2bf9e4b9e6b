use Rattle.std.proofs.Common.{◌≡◌, ◌≤◌, [], ◌∷◌, ◌++◌, map, drop, length, ap, ◌∙◌, arith}
use Rattle.std.proofs.lemmas.List.{at_drop_all, map-append}
use Rattle.arrow_flat.specs.Nodes.{node_of}
use Rattle.arrow_types.specs.KindOf.{child_of}
use Rattle.arrow_types.specs.Schemas.{Keyed}
use Rattle.ipc_fields.specs.IpcFields.{ids_of}
use Rattle.schema_writer.specs.Nodes.{field_table}
use Rattle.schema_writer.specs.Tables.{below_nodes}
use Rattle.ipc_fields.specs.Uses.{first_ids, first_id}
use Rattle.ipc_fields.proofs.Steps.{mapped_found}
use Rattle.schema_writer.proofs.Building.{node_next, nodes_done, sized_at}
use Rattle.schema_writer.proofs.Texts.{texts_more, texts_done}
use Rattle.schema_writer.proofs.write.schema.field_nodes.Goals as goal

pub field_node-requires : goal.field_node-requires
field_node-requires c = (sized_at _ _ (child_of c.field_at.result.now) (mapped_found (λ (p : Keyed). p.1) c.args.schema.now c.loop-i.i (child_of c.field_at.result.now) c.field_at.ensures) c.loop-i.invariant.sized).0

pub loop-i-preserved : goal.loop-i-preserved
loop-i-preserved c =
    let x = child_of c.field_at.result.now in
    let n = c.in_ok-field_node.field-0 in
    let own = ids_of (drop c.loop-i.i c.args.ipc_fields.now) in
    let first = mapped_found (λ (p : Keyed). p.1) c.args.schema.now c.loop-i.i x c.field_at.ensures in
    let pushed : map node_of c.push.new.self.items ≡ map node_of c.loop-i.nodes.items ++ node_of n ∷ [] = ap (map node_of) c.in_ok-push.ensures.items ∙ map-append node_of c.loop-i.nodes.items (n ∷ []) in
    let made : node_of n ≡ field_table x (first_id own) (below_nodes x.kind (first_ids own)) =
    c.in_ok-field_node.ensures.node ∙ ap (λ z. field_table x z (below_nodes x.kind (ids_of c.fields_at-below.result.now))) c.id_at-id.ensures.id ∙ ap (λ z. field_table x (first_id own) (below_nodes x.kind z)) c.fields_at-below.ensures in
    record {
      sized = (sized_at _ _ x first c.loop-i.invariant.sized).1;
      nodes = node_next _ _ x c.args.ipc_fields.now c.loop-i.i (map node_of c.loop-i.nodes.items) (map node_of c.push.new.self.items) (node_of n) _ first pushed made c.loop-i.invariant.nodes;
      texts = texts_more _ _ x _ first c.in_ok-field_node.ensures.texts c.loop-i.invariant.texts;
    }

pub returns-clause-nodes : goal.returns-clause-nodes
returns-clause-nodes c =
    let le : length c.args.schema.now ≤ c.loop-i.i = omega (arith, c.loop-i-test.false) in
    nodes_done _ (ids_of (drop c.loop-i.i c.args.ipc_fields.now)) (map node_of c.loop-i.nodes.items) _ (at_drop_all (map (λ (p : Keyed). p.1)) c.args.schema.now c.loop-i.i le) c.loop-i.invariant.nodes

pub returns-clause-texts : goal.returns-clause-texts
returns-clause-texts c =
    let le : length c.args.schema.now ≤ c.loop-i.i = omega (arith, c.loop-i-test.false) in
    texts_done _ _ (at_drop_all (map (λ (p : Keyed). p.1)) c.args.schema.now c.loop-i.i le) c.loop-i.invariant.texts
