use Rattle.std.proofs.Common.{inl, map}
use Rattle.ipc_dictionaries.specs.Walks.{to_send}
use Rattle.ipc_dictionaries.proofs.PartSteps.{handed}
use Rattle.ipc_messages.specs.Chunks.{EncodesFound}
use Rattle.ipc_messages.proofs.ChunkSteps.{batch_encoded, batch_refused, same_message}
use Rattle.ipc_messages.proofs.chunk.encode_found.Goals as goal

pub returns-in_err-dictionaries : goal.returns-in_err-dictionaries
returns-in_err-dictionaries c =
    let was = c.args.encoded.now in
    handed (λ r. EncodesFound r c.args.options.now (map to_send c.args.messages.now) c.args.batch.now was was) c.from_residual.result c.in_err-dictionaries.field-0.0 c.from_residual.ensures.1 (inl c.in_err-dictionaries.ensures, same_message was)

pub returns-in_err-encode_any_batch : goal.returns-in_err-encode_any_batch
returns-in_err-encode_any_batch c =
    let was = c.args.encoded.now in
    let is = c.encode_any_batch.new.encoded in
    let sent = map to_send c.args.messages.now in
    let e = c.in_err-encode_any_batch.field-0.0 in
    handed (λ r. EncodesFound r c.args.options.now sent c.args.batch.now was is) c.from_residual-in_err-encode_any_batch.result e c.from_residual-in_err-encode_any_batch.ensures.1
    (batch_refused e c.args.options.now sent c.in_ok-dictionaries.dictionaries.items c.args.batch.now was is c.in_ok-dictionaries.ensures c.in_err-encode_any_batch.ensures.encodes)

pub returns : goal.returns
returns c = (c.in_ok-dictionaries.ensures, batch_encoded c.args.options.now c.args.batch.now c.args.encoded.now c.encode_any_batch.new.encoded c.in_ok-encode_any_batch.ensures.encodes c.in_ok-encode_any_batch.ensures.may)
