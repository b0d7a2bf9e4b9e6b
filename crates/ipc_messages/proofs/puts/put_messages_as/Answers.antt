use Rattle.std.proofs.Common.{◌≡◌, ◌∙◌, Err, ap, arith, subst, take}
use Rattle.std.proofs.lemmas.List.{take_all}
use Rattle.std.specs.Io.KnownBytes.{Appends}
use Rattle.std.specs.List.{flat_map}
use Rattle.ipc_write.specs.Below.{text_of}
use Rattle.ipc_messages.specs.Messages.{planned_text}
use Rattle.ipc_messages.specs.Puts.{PutsOrStops}
use Rattle.ipc_messages.specs.declared.planned.PlannedMessage.{PlannedMessage}
use Rattle.ipc_messages.proofs.Putting.{item_behind, item_stops, item_wants, items_some, planned_some, text_of_each}
use Rattle.ipc_messages.proofs.puts.put_messages_as.Goals as goal

pub returns-in-Err-clause-puts : goal.returns-in-Err-clause-puts
returns-in-Err-clause-puts g c =
    let inv = c.loop-message.invariant in
    let text = λ (p : PlannedMessage). text_of c.args.encoding (planned_text p) in
    subst (PutsOrStops _ (Err c.behind.result)) (text_of_each c.args.encoding planned_text c.args.messages.now)
    (item_stops c.loop-message.has_begun _ _ _ _ _ _ _ _ _ c.in-Err.stop c.behind.result text c.args.messages.now c.loop-message.message-index c.message-item.result c.behind.ensures c.loop-message-test.true c.message-item.is
    inv.none inv.puts c.in-Err.ensures.puts)

pub returns-in-Err-clause-wants : goal.returns-in-Err-clause-wants
returns-in-Err-clause-wants g c =
    let inv = c.loop-message.invariant in
    item_wants c.loop-message.has_begun _ _ _ _ _ _ _ c.in-Err.stop c.behind.result (flat_map (λ (p : PlannedMessage). text_of c.args.encoding (planned_text p)) (take c.loop-message.message-index c.args.messages.now)) _ c.behind.ensures inv.some inv.puts.0 c.in-Err.ensures.puts c.in-Err.ensures.wants

pub returns-in-Err-clause-same_references : goal.returns-in-Err-clause-same_references
returns-in-Err-clause-same_references g c = c.put_message.ensures.same_references ∙ c.loop-message.invariant.references

pub returns-clause-puts : goal.returns-clause-puts
returns-clause-puts g c =
    let ms = c.args.messages.now in
    let text = λ (p : PlannedMessage). text_of c.args.encoding (planned_text p) in
    let all : flat_map text (take c.loop-message.message-index ms) ≡ text_of c.args.encoding (flat_map planned_text ms)
    = ap (flat_map text) (take_all c.loop-message.message-index ms (omega arith)) ∙ text_of_each c.args.encoding planned_text ms in
    (subst (Appends (g.W.Sink.written c.args.sink.now) (g.W.Sink.written c.loop-message.sink)) all c.loop-message.invariant.puts.0, c.loop-message.invariant.puts.1)

pub loop-message-preserved : goal.loop-message-preserved
loop-message-preserved g c =
    let inv = c.loop-message.invariant in
    let text = λ (p : PlannedMessage). text_of c.args.encoding (planned_text p) in
    record {
      puts = item_behind _ _ _ _ _ _ _ _ _ text c.args.messages.now c.loop-message.message-index c.message-item.result c.loop-message-test.true c.message-item.is inv.puts c.in-Ok.ensures.puts;
      none = λ h. cc;
      some = λ h. items_some text c.args.messages.now c.loop-message.message-index c.message-item.result c.loop-message-test.true c.message-item.is (planned_some c.args.encoding c.message-item.result);
      references = c.put_message.ensures.same_references ∙ inv.references;
      scratch = c.put_message.ensures.scratch ∙ inv.scratch;
    }
