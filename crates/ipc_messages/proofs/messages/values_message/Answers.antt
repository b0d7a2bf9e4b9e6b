use Rattle.std.proofs.Common.{◌≡◌, inr, Ok, Err, subst, rules, to_z, of_z, w64, SFits}
use Rattle.std.proofs.lemmas.Int.{to_z-of_z}
use Rattle.arrow_arrays.specs.Parts.{rows_in}
use Rattle.arrow_arrays.specs.PartsOf.{parts_of}
use Rattle.ipc_dictionaries.specs.Walks.{to_send}
use Rattle.ipc_dictionaries.proofs.PartSteps.{handed}
use Rattle.ipc_write.specs.Values.{PlansValues, values_message}
use Rattle.ipc_messages.specs.Messages.{PlansOne}
use Rattle.ipc_messages.proofs.Planning.{short_small, values_framed}
use Rattle.ipc_messages.proofs.messages.values_message.Goals as goal

pub returns-in_err-plan : goal.returns-in_err-plan
returns-in_err-plan c =
    let m = c.args.message.now in
    let fits : SFits w64 m.id = search rules in
    let same : to_z w64 (of_z w64 m.id) ≡ m.id = to_z-of_z w64 m.id fits in
    let e = c.in_err-plan.field-0.0 in
    let refused : PlansValues (Err e) c.args.options.now m.id m.is_delta (parts_of m.values) = subst (λ z. PlansValues (Err e) c.args.options.now z m.is_delta (parts_of m.values)) same c.in_err-plan.ensures.plans in
    handed (λ r. PlansOne r c.args.options.now (to_send m)) c.from_residual.result e c.from_residual.ensures.1 (inr refused)

pub with_front-requires : goal.with_front-requires
with_front-requires c =
    let m = c.args.message.now in
    let p = c.in_ok-plan.ensures.plans in
    short_small c.args.options.now.metadata_limit (rows_in (parts_of m.values)) (values_message (to_z w64 (of_z w64 m.id)) m.is_delta (parts_of m.values)) c.in_ok-plan.plan.ipc_message.items p.2 p.1

pub returns : goal.returns
returns c =
    let m = c.args.message.now in
    let fits : SFits w64 m.id = search rules in
    let same : to_z w64 (of_z w64 m.id) ≡ m.id = to_z-of_z w64 m.id fits in
    let p = c.in_ok-plan.plan in
    let plans : PlansValues (Ok p) c.args.options.now m.id m.is_delta (parts_of m.values) = subst (λ z. PlansValues (Ok p) c.args.options.now z m.is_delta (parts_of m.values)) same c.in_ok-plan.ensures.plans in
    values_framed c.with_front.result c.args.options.now (to_send m) p plans c.in_ok-plan.ensures.may c.with_front.ensures.text c.with_front.ensures.sizes c.with_front.ensures.err
