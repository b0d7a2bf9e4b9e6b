use Rattle.std.proofs.Common.{◌++◌, ◌-◌, length, refl}
use Rattle.arrow_spec.specs.Layout.{up_to, zeros}
use Rattle.ipc_bodies.proofs.Puts.{puts_as, stopped, then_puts}
use Rattle.ipc_write.proofs.Putting.{frame_of}
use Rattle.ipc_write.proofs.frame.put_message.Goals as goal

pub returns-in_err-put_metadata-clause-puts : goal.returns-in_err-put_metadata-clause-puts
returns-in_err-put_metadata-clause-puts g c =
    let body = c.args.encoded.now.arrow_data.items in
    puts_as _ c.from_residual.result _ _ (frame_of _ c.as_slice-metadata.result.now body _ body c.as_slice-metadata.ensures.value refl refl)
    (stopped _ c.in_err-put_metadata.field-0.0 c.from_residual.result _ (body ++ zeros (up_to 64 (length body) - length body)) c.from_residual.ensures.1 c.in_err-put_metadata.ensures.puts)

pub returns-clause-puts : goal.returns-clause-puts
returns-clause-puts g c =
    puts_as _ c.put_padded.result _ _ (frame_of c.pad_to_64.result c.as_slice-metadata.result.now c.as_slice-body.result.now _ _ c.as_slice-metadata.ensures.value c.as_slice-body.ensures.value c.pad_to_64.ensures)
    (then_puts _ _ _ _ _ _ _ _ _ c.put_padded.result _ _ c.in_ok-put_metadata.ensures.puts c.put_padded.ensures.puts)
