use Rattle.std.proofs.Common.{◌++◌, ap, arith}
use Rattle.std.proofs.lemmas.List.{take-replicate}
use Rattle.arrow_spec.specs.Layout.{zeros}
use Rattle.ipc_bodies.proofs.Puts.{puts_as, stopped, then_puts}
use Rattle.ipc_write.proofs.frame.put_padded.Goals as goal

pub returns-in_err-put-clause-puts : goal.returns-in_err-put-clause-puts
returns-in_err-put-clause-puts g c = stopped _ c.in_err-put.field-0.0 c.from_residual.result c.args.bytes.now (zeros c.args.count) c.from_residual.ensures.1 c.in_err-put.ensures.puts

pub returns-clause-puts : goal.returns-clause-puts
returns-clause-puts g c = puts_as _ c.put-2.result _ _ (ap (λ l. c.args.bytes.now ++ l) (take-replicate c.args.count 64 0 (omega arith))) (then_puts _ _ _ _ _ _ _ _ _ c.put-2.result c.args.bytes.now _ c.in_ok-put.ensures.puts c.put-2.ensures.puts)
