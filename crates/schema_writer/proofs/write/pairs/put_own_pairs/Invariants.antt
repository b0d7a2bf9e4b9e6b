use Rattle.std.proofs.Common.{◌≡◌, ◌++◌, map}
use Rattle.arrow_flat.specs.Nodes.{node_of}
use Rattle.arrow_types.specs.KindOf.{texts_of}
use Rattle.schema_writer.specs.Nodes.{pair_table, unreserved}
use Rattle.schema_writer.proofs.write.pairs.put_own_pairs.Given as goal

abbrev pub invariant-loop-key : goal.invariant-loop-key
invariant-loop-key l = map node_of l.out.items ++ map pair_table (unreserved (texts_of l.key-iterator)) ≡ map node_of l.fn.out.items ++ map pair_table (unreserved (texts_of l.metadata.entries))
