use Rattle.std.proofs.Common.{◌≡◌, [], ◌^◌, ◌<◌, length, ap, ◌∙◌, subst, sym}
use Rattle.std.specs.Prelude.{IfErr}
use Rattle.arrow_spec.specs.declared.error.IpcError.TheVariants.{Memory}
use Rattle.arrow_spec.specs.Layout.{up_to}
use Rattle.ipc_dictionaries.proofs.PartSteps.{handed}
use Rattle.ipc_write.specs.Outcomes.{message_frame}
use Rattle.ipc_messages.proofs.Planning.{front_sizes, front_text, only_memory}
use Rattle.ipc_messages.proofs.messages.with_front.Goals as goal

pub returns-in_err-front-clause-err : goal.returns-in_err-front-clause-err
returns-in_err-front-clause-err c =
    let e = c.in_err-front.field-0.0 in
    let small : up_to 8 (length c.as_slice.result.now) < 2 ^ 31 = subst (λ xs. up_to 8 (length xs) < 2 ^ 31) (sym c.as_slice.ensures.value) c.requires in
    handed (λ r. IfErr r (λ f. f ≡ Memory)) c.from_residual.result e c.from_residual.ensures.1 (only_memory e (up_to 8 (length c.as_slice.result.now)) small c.in_err-front.ensures.err)

pub returns-clause-text : goal.returns-clause-text
returns-clause-text c =
    front_text c.args.plan.ipc_message.items c.in_ok-front.front.items c.args.plan.buffers.items (c.in_ok-front.ensures.bytes ∙ ap (λ xs. message_frame xs []) c.as_slice.ensures.value)

pub returns-clause-sizes : goal.returns-clause-sizes
returns-clause-sizes c =
    front_sizes c.args.plan.ipc_message.items c.in_ok-front.front.items c.args.plan.body_length (c.in_ok-front.ensures.bytes ∙ ap (λ xs. message_frame xs []) c.as_slice.ensures.value)
