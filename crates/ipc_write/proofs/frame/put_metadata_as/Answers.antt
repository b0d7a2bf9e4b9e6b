use Rattle.std.proofs.Common.{◌++◌, ◌-◌, length, ap, ◌∙◌}
use Rattle.std.specs.Int.{w32}
use Rattle.std.proofs.lemmas.Int.{to_z_pos}
use Rattle.arrow_spec.specs.Layout.{zeros}
use Rattle.ipc_bodies.proofs.Encoded.{text_as, text_stopped, then_text}
use Rattle.ipc_write.proofs.Putting.{front_of}
use Rattle.ipc_write.proofs.frame.put_metadata_as.Goals as goal

pub returns-in_err-put_bytes_as-clause-puts : goal.returns-in_err-put_bytes_as-clause-puts
returns-in_err-put_bytes_as-clause-puts g c =
    let rest = c.args.metadata.now ++ zeros (c.args.padded - length c.args.metadata.now) in
    text_as c.args.encoding _ c.from_residual.result (c.prefix.result ++ rest) _
    (ap (λ l. l ++ rest) c.prefix.ensures ∙ front_of c.args.padded _ c.args.metadata.now (to_z_pos w32 c.args.padded c.requires.small) c.requires.padded)
    (text_stopped c.args.encoding _ c.in_err-put_bytes_as.field-0.0 c.from_residual.result c.prefix.result rest c.from_residual.ensures.1 c.in_err-put_bytes_as.ensures.puts)

pub returns-clause-puts : goal.returns-clause-puts
returns-clause-puts g c =
    let rest = c.args.metadata.now ++ zeros (c.args.padded - length c.args.metadata.now) in
    text_as c.args.encoding _ c.put_padded_as.result (c.prefix.result ++ rest) _
    (ap (λ l. l ++ rest) c.prefix.ensures ∙ front_of c.args.padded _ c.args.metadata.now (to_z_pos w32 c.args.padded c.requires.small) c.requires.padded)
    (then_text c.args.encoding _ _ _ _ _ _ _ _ _ c.put_padded_as.result c.prefix.result rest c.in_ok-put_bytes_as.ensures.puts c.put_padded_as.ensures.puts)
