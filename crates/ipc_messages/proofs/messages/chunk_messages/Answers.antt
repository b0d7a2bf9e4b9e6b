use Rattle.std.proofs.Common.{inl, refl, map}
use Rattle.arrow_spec.specs.declared.error.IpcError.TheVariants.{Memory}
use Rattle.ipc_dictionaries.specs.Walks.{to_send}
use Rattle.ipc_dictionaries.proofs.PartSteps.{handed}
use Rattle.ipc_messages.specs.Messages.{PlansChunk}
use Rattle.ipc_messages.proofs.Planning.{batch_refused, chunk_planned, values_refused}
use Rattle.ipc_messages.proofs.messages.chunk_messages.Goals as goal

pub returns-in_err-planned : goal.returns-in_err-planned
returns-in_err-planned c =
    let e = c.in_err-planned.field-0.0 in
    let sent = map to_send c.args.messages.now in
    handed (λ r. PlansChunk r c.args.options.now sent c.args.batch.now) c.from_residual.result e c.from_residual.ensures.1 (values_refused e c.args.options.now sent c.args.batch.now c.in_err-planned.ensures)

pub returns-in_err-batch_message : goal.returns-in_err-batch_message
returns-in_err-batch_message c =
    let e = c.in_err-batch_message.field-0.0 in
    let sent = map to_send c.args.messages.now in
    handed (λ r. PlansChunk r c.args.options.now sent c.args.batch.now) c.from_residual-in_err-batch_message.result e c.from_residual-in_err-batch_message.ensures.1
    (batch_refused e c.args.options.now sent c.args.batch.now c.in_ok-planned.planned.items c.in_ok-planned.ensures c.in_err-batch_message.ensures)

pub returns-in_err-push : goal.returns-in_err-push
returns-in_err-push c =
    handed (λ r. PlansChunk r c.args.options.now (map to_send c.args.messages.now) c.args.batch.now) c.from_residual-in_err-push.result Memory c.from_residual-in_err-push.ensures.1 (inl refl)

pub returns : goal.returns
returns c =
    chunk_planned c.args.options.now (map to_send c.args.messages.now) c.args.batch.now c.in_ok-planned.planned.items c.push.new.self.items c.in_ok-batch_message.field-0 c.in_ok-planned.ensures c.in_ok-batch_message.ensures c.in_ok-push.ensures.items
