use Rattle.std.proofs.Common.{◌<◌, length, ap, arith}
use Rattle.ipc_messages.proofs.Putting.{message_put, message_stops, piece_wants, wants_as, whole_wants}
use Rattle.ipc_messages.proofs.framed_puts.put_message.Goals as goal

pub returns-in_err-put_whole-clause-puts : goal.returns-in_err-put_whole-clause-puts
returns-in_err-put_whole-clause-puts g c =
    message_stops _ c.in_err-put_whole.field-0.0 c.from_residual.result c.as_slice.result.now c.args.message.now.front.items _ c.as_slice.ensures.value c.from_residual.ensures.1 c.in_err-put_whole.ensures.puts

pub returns-in_err-put_whole-clause-wants : goal.returns-in_err-put_whole-clause-wants
returns-in_err-put_whole-clause-wants g c = wants_as c.from_residual.result c.in_err-put_whole.field-0.0 _ _ c.from_residual.ensures.1 (whole_wants c.in_err-put_whole.field-0.0 _ _ c.in_err-put_whole.ensures.whole)

pub returns-clause-wants : goal.returns-clause-wants
returns-clause-wants g c =
    let some : 0 < length c.as_slice.result.now = omega (arith, c.args.message.now.begins, ap length c.as_slice.ensures.value) in
    piece_wants _ _ _ _ _ _ _ c.put_behind.result c.as_slice.result.now _ some c.in_ok-put_whole.ensures.puts.0 c.put_behind.ensures.puts

pub returns-clause-puts : goal.returns-clause-puts
returns-clause-puts g c =
    message_put _ _ _ _ _ _ _ _ _ c.put_behind.result c.as_slice.result.now c.args.message.now.front.items _ c.as_slice.ensures.value c.in_ok-put_whole.ensures.puts c.put_behind.ensures.puts
