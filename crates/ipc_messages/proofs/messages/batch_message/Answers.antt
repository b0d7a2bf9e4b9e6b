use Rattle.std.proofs.Common.{inr}
use Rattle.ipc_dictionaries.proofs.PartSteps.{handed}
use Rattle.ipc_messages.specs.Messages.{PlansBatch}
use Rattle.ipc_messages.proofs.Planning.{batch_framed, within_small}
use Rattle.ipc_messages.proofs.messages.batch_message.Goals as goal

pub returns-in_err-plan : goal.returns-in_err-plan
returns-in_err-plan c =
    handed (λ r. PlansBatch r c.args.options.now c.args.batch.now) c.from_residual.result c.in_err-plan.field-0.0 c.from_residual.ensures.1 (inr c.in_err-plan.ensures.plans)

pub with_front-requires : goal.with_front-requires
with_front-requires c =
    let p = c.in_ok-plan.ensures.plans in
    within_small c.args.options.now.metadata_limit c.args.batch.now c.in_ok-plan.plan.ipc_message.items p.2 p.1

pub returns : goal.returns
returns c =
    batch_framed c.with_front.result c.args.options.now c.args.batch.now c.in_ok-plan.plan c.in_ok-plan.ensures.plans c.in_ok-plan.ensures.may c.with_front.ensures.text c.with_front.ensures.sizes c.with_front.ensures.err
