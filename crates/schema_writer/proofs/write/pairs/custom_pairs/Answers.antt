use Rattle.std.proofs.Common.{rules, ◌≡◌, ◌++◌, map, length, nat_eq, sym, ap, ◌∙◌, arith}
use Rattle.arrow_spec.specs.Layout.{child, no_more, tables}
use Rattle.arrow_spec.specs.Sent.{custom_slot}
use Rattle.arrow_flat.specs.Nodes.{node_of, nodes_of}
use Rattle.arrow_flat.specs.declared.node.Node.{Tables, the_lemmas}
use Rattle.arrow_types.specs.KindOf.{texts_of}
use Rattle.ipc_fields.specs.IpcFields.{metadata_in}
use Rattle.schema_writer.specs.Nodes.{pair_table}
use Rattle.schema_writer.proofs.WrittenPairs.{some_custom}
use Rattle.schema_writer.proofs.write.pairs.custom_pairs.Goals as goal

pub returns-clause-slot : goal.returns-clause-slot
returns-clause-slot c =
    let pairs = texts_of c.in-Some.metadata.now.entries in
    let nodes = c.put_pairs.new.out.items in
    let made : node_of (Tables c.put_pairs.new.out) ≡ tables (nodes_of nodes) = search (rules, the_lemmas) in
    let count : c.put_pairs.new.out.len ≡ length nodes = omega arith in
    let put : map node_of nodes ≡ map pair_table pairs = c.in_ok-put_pairs.ensures.nodes ∙ ap (λ xs. map node_of xs ++ map pair_table pairs) c.new-nodes.ensures.items in
    ap (λ m. custom_slot (metadata_in m)) c.in-Some.is ∙ some_custom nodes pairs put (c.if-is_empty.ensures ∙ ap (λ n. nat_eq n 0) count) ∙ ap (λ n. child n no_more) (sym made)
