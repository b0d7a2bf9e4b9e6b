use Rattle.std.proofs.Common.{ℕ, List, sym, ap, ◌∙◌, ◌++◌, string_bytes}
use Rattle.arrow_types.specs.KindOf.{texts_of}
use Rattle.arrow_spec.specs.SchemaText.{pair_lines}
use Rattle.ipc_text.proofs.PairSteps.{pair_more}
use Rattle.ipc_text.proofs.pairs.push_pairs.Goals as goal

pub loop-key-preserved : goal.loop-key-preserved
loop-key-preserved c =
    let p : List ℕ × List ℕ = (string_bytes c.in-Some.key.now, string_bytes c.in-Some.value.now) in
    pair_more c.args.level p (texts_of c.next.new.self) c.loop-key.out.items c.push_pair.new.out.items _ c.in_ok-push_pair.ensures (ap (λ es. c.loop-key.out.items ++ pair_lines c.args.level (texts_of es)) (sym c.in-Some.ensures.steps) ∙ c.loop-key.invariant)
