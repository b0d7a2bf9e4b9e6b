use Rattle.std.proofs.Common.{◌-◌, ◌++◌, length, ap, arith, ◌∙◌}
use Rattle.std.proofs.lemmas.List.{take-replicate}
use Rattle.arrow_spec.specs.Layout.{up_to, zeros}
use Rattle.ipc_write.proofs.Below.{puts_as, stopped, then_puts}
use Rattle.ipc_messages.proofs.framed_puts.put_padded.Goals as goal

pub returns-in_err-put_bytes_as-clause-puts : goal.returns-in_err-put_bytes_as-clause-puts
returns-in_err-put_bytes_as-clause-puts g c =
    let body = c.args.body.now in
    stopped _ c.in_err-put_bytes_as.field-0.0 c.from_residual.result body (zeros (up_to 64 (length body) - length body)) c.from_residual.ensures.1 c.in_err-put_bytes_as.ensures.puts

pub returns-clause-puts : goal.returns-clause-puts
returns-clause-puts g c =
    puts_as _ c.put_bytes_as-2.result _ _ (ap (λ l. c.args.body.now ++ l) (take-replicate c.pad_to_64-padding.result 64 0 (omega (arith, c.pad_to_64-padding.ensures)) ∙ ap zeros c.pad_to_64-padding.ensures))
    (then_puts _ _ _ _ _ _ _ _ _ c.put_bytes_as-2.result c.args.body.now _ c.in_ok-put_bytes_as.ensures.puts c.put_bytes_as-2.ensures.puts)
