use Rattle.arrow_spec.specs.Framing.{body_bytes}
use Rattle.ipc_bodies.proofs.Encoded.{text_as, text_stopped, then_text}
use Rattle.ipc_write.proofs.Putting.{plan_frame}
use Rattle.ipc_write.proofs.frame.put_plan.Goals as goal

pub returns-in_err-put_metadata_as-clause-puts : goal.returns-in_err-put_metadata_as-clause-puts
returns-in_err-put_metadata_as-clause-puts g c =
    text_as c.args.encoding _ c.from_residual.result _ _ (plan_frame c.as_slice-metadata.result.now _ c.as_slice-buffers.result.now _ c.as_slice-metadata.ensures.value c.as_slice-buffers.ensures.value)
    (text_stopped c.args.encoding _ c.in_err-put_metadata_as.field-0.0 c.from_residual.result _ (body_bytes 0 c.as_slice-buffers.result.now) c.from_residual.ensures.1 c.in_err-put_metadata_as.ensures.puts)

pub returns-clause-puts : goal.returns-clause-puts
returns-clause-puts g c =
    text_as c.args.encoding _ c.put_body_as.result _ _ (plan_frame c.as_slice-metadata.result.now _ c.as_slice-buffers.result.now _ c.as_slice-metadata.ensures.value c.as_slice-buffers.ensures.value)
    (then_text c.args.encoding _ _ _ _ _ _ _ _ _ c.put_body_as.result _ _ c.in_ok-put_metadata_as.ensures.puts c.put_body_as.ensures.puts)
