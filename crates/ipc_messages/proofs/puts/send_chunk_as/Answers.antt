use Rattle.std.proofs.Common.{◌≡◌, arith, map}
use Rattle.std.proofs.lemmas.List.{length-map}
use Rattle.ipc_write.specs.Below.{text_of}
use Rattle.ipc_dictionaries.specs.Walks.{to_send}
use Rattle.ipc_messages.proofs.Putting.{chunk_sent, chunk_stops, untouched, wants_as}
use Rattle.ipc_messages.proofs.puts.send_chunk_as.Goals as goal

pub returns-in_err-put_messages_as-in-Ok-clause-sends : goal.returns-in_err-put_messages_as-in-Ok-clause-sends
returns-in_err-put_messages_as-in-Ok-clause-sends g c =
    chunk_stops (text_of c.args.encoding) _ c.in_err-put_messages_as-in-Ok.field-0.0 c.from_residual.result c.args.options.now (map to_send c.args.messages.now) c.args.batch.now c.as_slice-messages.result.now c.in-Ok.planned.items c.from_residual.ensures.1 c.as_slice-messages.ensures.value c.in-Ok.ensures
    c.in_err-put_messages_as-in-Ok.ensures.puts

pub returns-in_err-put_messages_as-in-Ok-clause-wants : goal.returns-in_err-put_messages_as-in-Ok-clause-wants
returns-in_err-put_messages_as-in-Ok-clause-wants g c = wants_as c.from_residual.result c.in_err-put_messages_as-in-Ok.field-0.0 _ _ c.from_residual.ensures.1 c.in_err-put_messages_as-in-Ok.ensures.wants

pub returns-in_ok-put_messages_as-in-Ok-clause-sends : goal.returns-in_ok-put_messages_as-in-Ok-clause-sends
returns-in_ok-put_messages_as-in-Ok-clause-sends g c =
    chunk_sent (text_of c.args.encoding) _ c.text_length.result c.args.options.now (map to_send c.args.messages.now) c.args.batch.now c.as_slice-messages.result.now c.in-Ok.planned.items c.as_slice-messages.ensures.value c.in-Ok.ensures c.in_ok-put_messages_as-in-Ok.ensures.puts c.text_length.ensures (omega (arith, length-map c.args.messages.now to_send))

pub returns-in-Err-clause-sends : goal.returns-in-Err-clause-sends
returns-in-Err-clause-sends g c = (c.in-Err.ensures, untouched _ _ _)

pub returns-in-Err-clause-wants : goal.returns-in-Err-clause-wants
returns-in-Err-clause-wants g c = λ e b. absurd (cc)
