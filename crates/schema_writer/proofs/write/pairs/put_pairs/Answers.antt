use Rattle.std.proofs.Common.{◌≡◌, ℕ, List, rules, sym, map, ap, ◌∙◌, ◌++◌, string_bytes}
use Rattle.arrow_types.specs.KindOf.{texts_of}
use Rattle.arrow_flat.specs.Nodes.{node_of}
use Rattle.schema_writer.specs.Nodes.{pair_table}
use Rattle.schema_writer.proofs.WrittenPairs.{put_step}
use Rattle.schema_writer.proofs.Texts.{map_ascends}
use Rattle.schema_writer.proofs.write.pairs.put_pairs.Goals as goal

pub loop-key-preserved : goal.loop-key-preserved
loop-key-preserved c =
    let p : List ℕ × List ℕ = (string_bytes c.in-Some.key.now, string_bytes c.in-Some.text.now) in
    let left = texts_of c.next.new.self in
    let e : pair_table (c.as_str.result.now, string_bytes c.in-Some.text.now) ≡ pair_table p = search rules in
    put_step (map node_of c.loop-key.out.items) (map node_of c.put_text.new.out.items) (pair_table (c.as_str.result.now, string_bytes c.in-Some.text.now)) p left _ c.in_ok-put_text.ensures e (ap (λ es. map node_of c.loop-key.out.items ++ map pair_table (texts_of es)) (sym c.in-Some.ensures.steps) ∙ c.loop-key.invariant)

pub returns-clause-ascend : goal.returns-clause-ascend
returns-clause-ascend c = map_ascends c.args.metadata.now.entries c.iter-key-items.ensures.ordered
