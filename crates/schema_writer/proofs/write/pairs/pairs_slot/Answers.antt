use Rattle.std.proofs.Common.{rules, ◌≡◌, length, arith}
use Rattle.arrow_spec.specs.Layout.{tables}
use Rattle.arrow_flat.specs.Nodes.{slot_of, nodes_of, leads_to}
use Rattle.arrow_flat.specs.declared.node.Slot.{Child, the_lemmas}
use Rattle.arrow_flat.specs.declared.node.Node.{Tables}
use Rattle.schema_writer.proofs.WrittenPairs.{some_pairs}
use Rattle.schema_writer.proofs.write.pairs.pairs_slot.Goals as goal

pub returns : goal.returns
returns c =
    let e : slot_of (Child (Tables c.args.nodes)) ≡ leads_to (tables (nodes_of c.args.nodes.items)) = search (rules, the_lemmas) in
    let n : c.args.nodes.len ≡ length c.args.nodes.items = omega arith in
    some_pairs _ _ _ n e c.if-is_empty.ensures
