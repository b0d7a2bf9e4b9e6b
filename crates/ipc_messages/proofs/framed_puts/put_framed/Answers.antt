use Rattle.std.proofs.Common.{◌∙◌, take}
use Rattle.std.specs.List.{flat_map}
use Rattle.ipc_messages.proofs.Putting.{framed_some, item_behind, item_stops, item_wants, items_some}
use Rattle.ipc_messages.specs.Framed.{framed_text}
use Rattle.ipc_messages.proofs.framed_puts.put_framed.Goals as goal

pub returns-in-Err-clause-puts : goal.returns-in-Err-clause-puts
returns-in-Err-clause-puts g c =
    let inv = c.loop-message.invariant in
    item_stops c.loop-message.has_begun _ _ _ _ _ _ _ _ _ c.in-Err.stop c.behind.result framed_text c.args.messages.now c.loop-message.message-index c.message-item.result c.behind.ensures c.loop-message-test.true c.message-item.is
    inv.none inv.puts c.in-Err.ensures.puts

pub returns-in-Err-clause-wants : goal.returns-in-Err-clause-wants
returns-in-Err-clause-wants g c =
    let inv = c.loop-message.invariant in
    item_wants c.loop-message.has_begun _ _ _ _ _ _ _ c.in-Err.stop c.behind.result (flat_map framed_text (take c.loop-message.message-index c.args.messages.now)) _ c.behind.ensures inv.some inv.puts.0 c.in-Err.ensures.puts c.in-Err.ensures.wants

pub returns-in-Err-clause-same_references : goal.returns-in-Err-clause-same_references
returns-in-Err-clause-same_references g c = c.put_message.ensures.same_references ∙ c.loop-message.invariant.references

pub loop-message-preserved : goal.loop-message-preserved
loop-message-preserved g c =
    let inv = c.loop-message.invariant in
    record {
      puts = item_behind _ _ _ _ _ _ _ _ _ framed_text c.args.messages.now c.loop-message.message-index c.message-item.result c.loop-message-test.true c.message-item.is inv.puts c.in-Ok.ensures.puts;
      none = λ h. cc;
      some = λ h. items_some framed_text c.args.messages.now c.loop-message.message-index c.message-item.result c.loop-message-test.true c.message-item.is (framed_some c.message-item.result);
      references = c.put_message.ensures.same_references ∙ inv.references;
      scratch = c.put_message.ensures.scratch ∙ inv.scratch;
    }
