use Rattle.std.proofs.Common.{◌-◌, ◌++◌, length, ap, ◌∙◌}
use Rattle.arrow_spec.specs.Layout.{up_to, zeros}
use Rattle.ipc_bodies.proofs.Encoded.{text_stopped, then_text, text_as}
use Rattle.ipc_bodies.proofs.body.put_padded.Goals as goal

pub returns-in_err-put_as-clause-puts : goal.returns-in_err-put_as-clause-puts
returns-in_err-put_as-clause-puts g c =
    let x = c.args.buffer.now in
    text_stopped c.args.encoding _ c.in_err-put_as.field-0.0 c.from_residual.result x (zeros (up_to 64 (length x) - length x)) c.from_residual.ensures.1 c.in_err-put_as.ensures.puts

pub returns-clause-puts : goal.returns-clause-puts
returns-clause-puts g c =
    let x = c.args.buffer.now in
    text_as c.args.encoding _ c.put_zeros.result (x ++ zeros c.padding.result) (x ++ zeros (up_to 64 (length x) - length x)) (ap (λ n. x ++ zeros n) (c.padding.ensures.gap ∙ ap (λ n. up_to 64 n - n) c.len.ensures))
    (then_text c.args.encoding _ _ _ _ _ _ _ _ _ c.put_zeros.result x (zeros c.padding.result) c.in_ok-put_as.ensures.puts c.put_zeros.ensures.puts)
