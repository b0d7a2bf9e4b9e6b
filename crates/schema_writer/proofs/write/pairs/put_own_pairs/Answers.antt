use Rattle.std.proofs.Common.{rules, ◌≡◌, [], sym, map, ap, ◌∙◌, ◌++◌}
use Rattle.arrow_types.specs.KindOf.{texts_of}
use Rattle.arrow_flat.specs.Nodes.{node_of}
use Rattle.schema_writer.specs.Nodes.{pair_table, unreserved}
use Rattle.schema_writer.proofs.WrittenPairs.{own_done}
use Rattle.schema_writer.proofs.Texts.{map_ascends}
use Rattle.schema_writer.proofs.write.pairs.put_own_pairs.Goals as goal

pub returns-clause-nodes : goal.returns-clause-nodes
returns-clause-nodes c =
    let none : c.loop-key.key-iterator ≡ [] = search rules in
    own_done c.args.metadata.now.entries (map node_of c.loop-key.out.items) (map node_of c.args.out.now.items) c.iter-key-items.ensures.ordered (ap (λ it. map node_of c.loop-key.out.items ++ map pair_table (unreserved (texts_of it))) (sym none) ∙ c.loop-key.invariant)

pub returns-clause-ascend : goal.returns-clause-ascend
returns-clause-ascend c = map_ascends c.args.metadata.now.entries c.iter-key-items.ensures.ordered
