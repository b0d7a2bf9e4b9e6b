use Rattle.std.proofs.Common.{◌≡◌, Err, subst, to_z, of_z, w64}
use Rattle.std.proofs.lemmas.Int.{to_z-of_z}
use Rattle.arrow_spec.specs.declared.error.IpcError.TheVariants.{Memory}
use Rattle.arrow_arrays.specs.PartsOf.{parts_of}
use Rattle.ipc_dictionaries.specs.NewDictionaries.{message_of}
use Rattle.ipc_dictionaries.proofs.PartSteps.{handed}
use Rattle.ipc_write.specs.Values.{PlansValues, IsOfValues}
use Rattle.ipc_messages.specs.Encoded.{AddsOne}
use Rattle.ipc_messages.proofs.encoded.add_message.Goals as goal

pub returns-in_err-message : goal.returns-in_err-message
returns-in_err-message c =
    let e : to_z w64 (of_z w64 c.args.id) ≡ c.args.id = to_z-of_z w64 c.args.id c.ranges.id in
    let x = parts_of c.args.values.now in
    let was = c.args.encoded.now.items in
    let error = c.in_err-message.field-0.0 in
    let refused : PlansValues (Err error) c.args.options.now c.args.id c.args.is_delta x = subst (λ z. PlansValues (Err error) c.args.options.now z c.args.is_delta x) e c.in_err-message.ensures.encodes in
    handed (λ r. AddsOne r c.args.options.now (message_of c.args.id c.args.is_delta x) was was) c.from_residual.result error c.from_residual.ensures.1 refused

pub returns-in_err-push : goal.returns-in_err-push
returns-in_err-push c =
    let s = message_of c.args.id c.args.is_delta (parts_of c.args.values.now) in
    handed (λ r. AddsOne r c.args.options.now s c.args.encoded.now.items c.push.new.self.items) c.from_residual-in_err-push.result Memory c.from_residual-in_err-push.ensures.1 c.in_ok-message.ensures.encodes.uncompressed

pub returns : goal.returns
returns c =
    let e : to_z w64 (of_z w64 c.args.id) ≡ c.args.id = to_z-of_z w64 c.args.id c.ranges.id in
    let x = parts_of c.args.values.now in
    let m = c.in_ok-message.message in
    let encoded : IsOfValues c.args.options.now c.args.id c.args.is_delta x m = subst (λ z. IsOfValues c.args.options.now z c.args.is_delta x m) e c.in_ok-message.ensures.encodes in
    (m, c.in_ok-push.ensures.items, record { encoded = encoded; may = c.in_ok-message.ensures.may })
