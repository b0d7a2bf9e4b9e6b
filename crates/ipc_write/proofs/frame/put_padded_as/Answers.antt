use Rattle.std.proofs.Common.{◌++◌, ap, arith}
use Rattle.std.proofs.lemmas.List.{take-replicate}
use Rattle.arrow_spec.specs.Layout.{zeros}
use Rattle.ipc_bodies.proofs.Encoded.{text_as, text_stopped, then_text}
use Rattle.ipc_write.proofs.frame.put_padded_as.Goals as goal

pub returns-in_err-put_bytes_as-clause-puts : goal.returns-in_err-put_bytes_as-clause-puts
returns-in_err-put_bytes_as-clause-puts g c = text_stopped c.args.encoding _ c.in_err-put_bytes_as.field-0.0 c.from_residual.result c.args.bytes.now (zeros c.args.count) c.from_residual.ensures.1 c.in_err-put_bytes_as.ensures.puts

pub returns-clause-puts : goal.returns-clause-puts
returns-clause-puts g c = text_as c.args.encoding _ c.put_bytes_as-2.result _ _ (ap (λ l. c.args.bytes.now ++ l) (take-replicate c.args.count 64 0 (omega arith))) (then_text c.args.encoding _ _ _ _ _ _ _ _ _ c.put_bytes_as-2.result c.args.bytes.now _ c.in_ok-put_bytes_as.ensures.puts c.put_bytes_as-2.ensures.puts)
