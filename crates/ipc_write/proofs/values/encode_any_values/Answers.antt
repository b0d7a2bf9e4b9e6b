use Rattle.std.proofs.Common.{◌≡◌, Ok, Err, subst, to_z, of_z, w64}
use Rattle.std.proofs.lemmas.Int.{to_z-of_z}
use Rattle.arrow_spec.specs.declared.error.IpcError.TheVariants.{Memory}
use Rattle.arrow_arrays.specs.PartsOf.{parts_of}
use Rattle.ipc_write.specs.Values.{PlansValues}
use Rattle.ipc_write.proofs.DictionaryValues.{values_encoded, values_refused, values_uncompressed}
use Rattle.ipc_write.proofs.values.encode_any_values.Goals as goal

pub returns-in_err-plan-clause-encodes : goal.returns-in_err-plan-clause-encodes
returns-in_err-plan-clause-encodes c =
    let e : to_z w64 (of_z w64 c.args.id) ≡ c.args.id = to_z-of_z w64 c.args.id c.ranges.id in
    let x = parts_of c.args.array.now in
    let error = c.in_err-plan.field-0.0 in
    let refused : PlansValues (Err error) c.args.options.now c.args.id c.args.is_delta x = subst (λ z. PlansValues (Err error) c.args.options.now z c.args.is_delta x) e c.in_err-plan.ensures.plans in
    values_refused c.from_residual.result error c.args.options.now c.args.id c.args.is_delta x c.from_residual.ensures.1 refused

pub returns-in_err-message-clause-encodes : goal.returns-in_err-message-clause-encodes
returns-in_err-message-clause-encodes c =
    let x = parts_of c.args.array.now in
    values_refused c.from_residual-in_err-message.result Memory c.args.options.now c.args.id c.args.is_delta x c.from_residual-in_err-message.ensures.1 (values_uncompressed c.in_ok-plan.plan c.args.options.now (to_z w64 (of_z w64 c.args.id)) c.args.is_delta x c.in_ok-plan.ensures.plans)

pub returns-clause-encodes : goal.returns-clause-encodes
returns-clause-encodes c =
    let e : to_z w64 (of_z w64 c.args.id) ≡ c.args.id = to_z-of_z w64 c.args.id c.ranges.id in
    let x = parts_of c.args.array.now in
    let plans : PlansValues (Ok c.in_ok-plan.plan) c.args.options.now c.args.id c.args.is_delta x = subst (λ z. PlansValues (Ok c.in_ok-plan.plan) c.args.options.now z c.args.is_delta x) e c.in_ok-plan.ensures.plans in
    values_encoded c.in_ok-plan.plan c.in_ok-message.message c.args.options.now c.args.id c.args.is_delta x plans c.in_ok-message.ensures.message c.in_ok-message.ensures.body
