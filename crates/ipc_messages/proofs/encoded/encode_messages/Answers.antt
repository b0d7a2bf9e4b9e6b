use Rattle.std.proofs.Common.{◌≡◌, ◌+◌, Ok, map, drop, subst, to_z, of_z, w64, SFits, arith, rules}
use Rattle.std.proofs.lemmas.Int.{to_z-of_z}
use Rattle.arrow_arrays.specs.PartsOf.{parts_of}
use Rattle.ipc_dictionaries.specs.NewDictionaries.{message_of}
use Rattle.ipc_dictionaries.specs.Walks.{to_send}
use Rattle.ipc_dictionaries.proofs.PartSteps.{handed}
use Rattle.ipc_messages.specs.Encoded.{AddsOne, EncodesEach, Refuses}
use Rattle.ipc_messages.proofs.MessageSteps.{left_begun, left_more, left_refused, next_message, all_encoded}
use Rattle.ipc_messages.proofs.encoded.encode_messages.Goals as goal

pub loop-message-init : goal.loop-message-init
loop-message-init c = left_begun c.args.options.now c.new-encoded.result.items (map to_send c.args.messages.now) c.new-encoded.ensures.items

pub loop-message-preserved : goal.loop-message-preserved
loop-message-preserved c =
    let xs = c.args.messages.now in
    let i = c.loop-message.message-index in
    let x = c.message-item.result in
    let fits : SFits w64 x.id = search rules in
    let e : to_z w64 (of_z w64 x.id) ≡ x.id = to_z-of_z w64 x.id fits in
    let adds : AddsOne (Ok tt) c.args.options.now (to_send x) c.loop-message.encoded.items c.add_message.new.encoded.items = subst (λ z. AddsOne (Ok tt) c.args.options.now (message_of z x.is_delta (parts_of x.values)) c.loop-message.encoded.items c.add_message.new.encoded.items) e c.in_ok-add_message.ensures in
    left_more c.args.options.now c.loop-message.encoded.items c.add_message.new.encoded.items (map to_send (drop i xs)) (map to_send (drop (i + 1) xs)) (map to_send xs) (to_send x) (next_message xs i x c.loop-message-test.true c.message-item.is) adds c.loop-message.invariant

pub returns-in_err-add_message : goal.returns-in_err-add_message
returns-in_err-add_message c =
    let xs = c.args.messages.now in
    let i = c.loop-message.message-index in
    let x = c.message-item.result in
    let fits : SFits w64 x.id = search rules in
    let e : to_z w64 (of_z w64 x.id) ≡ x.id = to_z-of_z w64 x.id fits in
    let error = c.in_err-add_message.field-0.0 in
    let refused : Refuses error c.args.options.now (to_send x) = subst (λ z. Refuses error c.args.options.now (message_of z x.is_delta (parts_of x.values))) e c.in_err-add_message.ensures in
    handed (λ r. EncodesEach r c.args.options.now (map to_send xs)) c.from_residual.result c.in_err-add_message.field-0.0 c.from_residual.ensures.1
    (left_refused c.args.options.now c.loop-message.encoded.items (map to_send (drop i xs)) (map to_send (drop (i + 1) xs)) (map to_send xs) (to_send x) c.in_err-add_message.field-0.0 (next_message xs i x c.loop-message-test.true c.message-item.is) refused c.loop-message.invariant)

pub returns : goal.returns
returns c = all_encoded c.args.options.now c.loop-message.encoded.items c.args.messages.now c.loop-message.message-index (map to_send c.args.messages.now) (omega arith) c.loop-message.invariant
