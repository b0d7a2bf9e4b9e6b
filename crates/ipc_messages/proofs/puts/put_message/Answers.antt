use Rattle.std.proofs.Common.{◌<◌, length, refl, ap, arith}
use Rattle.ipc_write.specs.Below.{text_of}
use Rattle.ipc_messages.proofs.Putting.{piece_wants, text_put, text_some, text_stops, wants_as}
use Rattle.ipc_messages.proofs.puts.put_message.Goals as goal

pub returns-in_err-put_whole_as-clause-puts : goal.returns-in_err-put_whole_as-clause-puts
returns-in_err-put_whole_as-clause-puts g c =
    text_stops c.args.encoding _ c.in_err-put_whole_as.field-0.0 c.from_residual.result c.as_slice.result.now c.args.message.now.front.items _ _ c.as_slice.ensures.value refl c.from_residual.ensures.1 c.in_err-put_whole_as.ensures.puts

pub returns-in_err-put_whole_as-clause-wants : goal.returns-in_err-put_whole_as-clause-wants
returns-in_err-put_whole_as-clause-wants g c =
    let some : 0 < length c.as_slice.result.now = omega (arith, c.args.message.now.begins, ap length c.as_slice.ensures.value) in
    wants_as c.from_residual.result c.in_err-put_whole_as.field-0.0 _ _ c.from_residual.ensures.1 (c.in_err-put_whole_as.ensures.wants some)

pub returns-clause-wants : goal.returns-clause-wants
returns-clause-wants g c =
    let some : 0 < length c.as_slice.result.now = omega (arith, c.args.message.now.begins, ap length c.as_slice.ensures.value) in
    piece_wants _ _ _ _ _ _ _ c.put_behind.result (text_of c.args.encoding c.as_slice.result.now) _ (text_some c.args.encoding c.as_slice.result.now some) c.in_ok-put_whole_as.ensures.puts.0 c.put_behind.ensures.puts

pub returns-clause-puts : goal.returns-clause-puts
returns-clause-puts g c =
    text_put c.args.encoding _ _ _ _ _ _ _ _ _ c.put_behind.result c.as_slice.result.now c.args.message.now.front.items _ _ c.as_slice.ensures.value refl c.in_ok-put_whole_as.ensures.puts c.put_behind.ensures.puts
