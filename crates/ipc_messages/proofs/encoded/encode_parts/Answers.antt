use Rattle.std.proofs.Common.{◌≡◌, ◌∙◌, ◌+◌, drop, false, true, sym, subst, to_z, of_z, w64, arith}
use Rattle.std.proofs.lemmas.Int.{to_z-of_z}
use Rattle.arrow_arrays.specs.PartsOf.{parts_of, forest_of}
use Rattle.ipc_dictionaries.specs.NewDictionaries.{message_of}
use Rattle.ipc_dictionaries.proofs.PartSteps.{handed}
use Rattle.ipc_messages.specs.Encoded.{AreMessagesOf, EncodesEach, RefusesOne, messages_of}
use Rattle.ipc_messages.proofs.MessageSteps.{left_begun, left_more, left_passed, left_refused, next_part, parts_encoded, passed_part}
use Rattle.ipc_messages.proofs.encoded.encode_parts.Goals as goal

pub loop-part-init : goal.loop-part-init
loop-part-init c = left_begun c.args.options.now c.new-encoded.result.items (messages_of (to_z w64 (of_z w64 c.args.id)) false (forest_of c.args.parts.now)) c.new-encoded.ensures.items

pub loop-part-preserved-then-is_passed : goal.loop-part-preserved-then-is_passed
loop-part-preserved-then-is_passed c =
    let id = to_z w64 (of_z w64 c.args.id) in
    let xs = c.args.parts.now in
    let i = c.loop-part.part-index in
    let x = c.part-item.result in
    left_passed c.args.options.now c.loop-part.encoded.items (messages_of id c.loop-part.is_delta (forest_of (drop i xs))) (messages_of id c.loop-part.is_delta (forest_of (drop (i + 1) xs))) (messages_of id false (forest_of xs)) (passed_part id c.loop-part.is_delta xs i x c.loop-part-test.true c.part-item.is (sym c.is_passed.ensures ∙ c.if-is_passed.true)) c.loop-part.invariant

pub loop-part-preserved : goal.loop-part-preserved
loop-part-preserved c =
    let id = to_z w64 (of_z w64 c.args.id) in
    let xs = c.args.parts.now in
    let i = c.loop-part.part-index in
    let x = c.part-item.result in
    left_more c.args.options.now c.loop-part.encoded.items c.add_message.new.encoded.items (messages_of id c.loop-part.is_delta (forest_of (drop i xs))) (messages_of id true (forest_of (drop (i + 1) xs))) (messages_of id false (forest_of xs)) (message_of id c.loop-part.is_delta (parts_of x)) (next_part id c.loop-part.is_delta xs i x c.loop-part-test.true c.part-item.is (sym c.is_passed.ensures ∙ c.if-is_passed.false)) c.in_ok-add_message.ensures c.loop-part.invariant

pub returns-in_err-add_message : goal.returns-in_err-add_message
returns-in_err-add_message c =
    let id = to_z w64 (of_z w64 c.args.id) in
    let e : id ≡ c.args.id = to_z-of_z w64 c.args.id c.ranges.id in
    let xs = c.args.parts.now in
    let i = c.loop-part.part-index in
    let x = c.part-item.result in
    let error = c.in_err-add_message.field-0.0 in
    let refused : RefusesOne error c.args.options.now (messages_of id false (forest_of xs)) = left_refused c.args.options.now c.loop-part.encoded.items (messages_of id c.loop-part.is_delta (forest_of (drop i xs))) (messages_of id true (forest_of (drop (i + 1) xs))) (messages_of id false (forest_of xs)) (message_of id c.loop-part.is_delta (parts_of x)) error (next_part id c.loop-part.is_delta xs i x c.loop-part-test.true c.part-item.is (sym c.is_passed.ensures ∙ c.if-is_passed.false)) c.in_err-add_message.ensures c.loop-part.invariant in
    handed (λ r. EncodesEach r c.args.options.now (messages_of c.args.id false (forest_of xs))) c.from_residual.result error c.from_residual.ensures.1 (subst (λ z. RefusesOne error c.args.options.now (messages_of z false (forest_of xs))) e refused)

pub returns : goal.returns
returns c =
    let id = to_z w64 (of_z w64 c.args.id) in
    let e : id ≡ c.args.id = to_z-of_z w64 c.args.id c.ranges.id in
    let xs = c.args.parts.now in
    let ms = c.loop-part.encoded.items in
    let all : AreMessagesOf c.args.options.now (messages_of id false (forest_of xs)) ms = parts_encoded c.args.options.now ms id c.loop-part.is_delta xs c.loop-part.part-index (messages_of id false (forest_of xs)) (omega arith) c.loop-part.invariant in
    subst (λ z. AreMessagesOf c.args.options.now (messages_of z false (forest_of xs)) ms) e all
