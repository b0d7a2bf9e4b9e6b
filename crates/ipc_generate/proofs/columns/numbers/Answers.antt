use Rattle.std.proofs.Common.{◌<◌, ◌++◌, ◌∷◌, [], length, take, sym, ap, ◌∙◌, arith}
use Rattle.ipc_generate.specs.Arrays.{by_rows, number_of}
use Rattle.ipc_generate.proofs.EachRow.{next_row}
use Rattle.ipc_generate.proofs.columns.numbers.Goals as goal

pub loop-i-preserved : goal.loop-i-preserved
loop-i-preserved c =
    let below : c.loop-i.i < length c.args.states.now = omega arith in
    c.in_ok-push.ensures.items ∙ ap (λ l. l ++ c.number_of.result ∷ []) c.loop-i.invariant
    ∙ ap (λ y. by_rows number_of 0 (take c.loop-i.i c.args.states.now) ++ y ∷ []) c.number_of.ensures
    ∙ sym (next_row number_of c.args.states.now c.loop-i.i below)
