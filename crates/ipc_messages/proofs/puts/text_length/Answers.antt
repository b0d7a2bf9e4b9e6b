use Rattle.std.proofs.Common.{◌≡◌, ◌+◌, ◌++◌, ◌∷◌, [], ◌≤◌, map, take, length, arith, sym, ap, ◌∙◌}
use Rattle.std.proofs.lemmas.List.{take_more}
use Rattle.ipc_messages.specs.Messages.{planned_sizes, total}
use Rattle.ipc_messages.proofs.Lengths.{total_all, total_more}
use Rattle.ipc_messages.proofs.puts.text_length.Goals as goal

pub loop-message-preserved : goal.loop-message-preserved
loop-message-preserved c =
    let xs = c.args.messages.now in
    let i = c.loop-message.message-index in
    let x = c.message-item.result in
    let one : take (i + 1) xs ≡ take i xs ++ x ∷ [] = take_more xs i x c.loop-message-test.true ∙ ap (λ y. take i xs ++ y ∷ []) (sym c.message-item.is) in
    record {
      total = omega (arith, c.len.ensures, x.front.ok.0, total_more xs i x c.loop-message.length one c.loop-message.invariant.total);
      few = omega (arith, c.loop-message.invariant.few);
    }

pub returns : goal.returns
returns c = total_all c.args.messages.now c.loop-message.message-index c.loop-message.length (omega arith) c.loop-message.invariant.total
