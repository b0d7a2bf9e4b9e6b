use Rattle.std.proofs.Common.{inl, refl, map, drop, ◌+◌, arith}
use Rattle.arrow_spec.specs.declared.error.IpcError.TheVariants.{Memory}
use Rattle.ipc_dictionaries.specs.Walks.{to_send}
use Rattle.ipc_dictionaries.proofs.PartSteps.{handed}
use Rattle.ipc_messages.specs.Messages.{PlansEach}
use Rattle.ipc_messages.proofs.Planning.{all_planned, left_begun, left_more, left_refused, next_message}
use Rattle.ipc_messages.proofs.messages.values_messages.Goals as goal

pub loop-message-init : goal.loop-message-init
loop-message-init c = left_begun c.args.options.now c.new-planned.result.items (map to_send c.args.messages.now) c.new-planned.ensures.items

pub loop-message-preserved : goal.loop-message-preserved
loop-message-preserved c =
    let xs = c.args.messages.now in
    let i = c.loop-message.message-index in
    let x = c.message-item.result in
    left_more c.args.options.now c.loop-message.planned.items c.push.new.self.items (map to_send (drop i xs)) (map to_send (drop (i + 1) xs)) (map to_send xs) (to_send x) c.in_ok-values_message.field-0
    (next_message xs i x c.loop-message-test.true c.message-item.is) c.in_ok-values_message.ensures c.in_ok-push.ensures.items c.loop-message.invariant

pub returns-in_err-values_message : goal.returns-in_err-values_message
returns-in_err-values_message c =
    let xs = c.args.messages.now in
    let i = c.loop-message.message-index in
    let x = c.message-item.result in
    let e = c.in_err-values_message.field-0.0 in
    handed (λ r. PlansEach r c.args.options.now (map to_send xs)) c.from_residual.result e c.from_residual.ensures.1
    (left_refused c.args.options.now c.loop-message.planned.items (map to_send (drop i xs)) (map to_send (drop (i + 1) xs)) (map to_send xs) (to_send x) e
    (next_message xs i x c.loop-message-test.true c.message-item.is) c.in_err-values_message.ensures c.loop-message.invariant)

pub returns-in_err-push : goal.returns-in_err-push
returns-in_err-push c =
    handed (λ r. PlansEach r c.args.options.now (map to_send c.args.messages.now)) c.from_residual-in_err-push.result Memory c.from_residual-in_err-push.ensures.1 (inl refl)

pub returns : goal.returns
returns c = all_planned c.args.options.now c.loop-message.planned.items c.args.messages.now c.loop-message.message-index (map to_send c.args.messages.now) (omega arith) c.loop-message.invariant
