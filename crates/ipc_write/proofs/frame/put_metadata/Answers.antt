use Rattle.std.proofs.Common.{◌++◌, ◌-◌, length}
use Rattle.std.specs.Int.{w32}
use Rattle.std.proofs.lemmas.Int.{to_z_pos}
use Rattle.arrow_spec.specs.Layout.{zeros}
use Rattle.ipc_bodies.proofs.Puts.{puts_as, stopped, then_puts}
use Rattle.ipc_write.proofs.Putting.{front_of}
use Rattle.ipc_write.proofs.frame.put_metadata.Goals as goal

pub returns-in_err-write_continuation-clause-puts : goal.returns-in_err-write_continuation-clause-puts
returns-in_err-write_continuation-clause-puts g c =
    puts_as _ c.from_residual.result _ _ (front_of c.args.padded _ c.args.metadata.now (to_z_pos w32 c.args.padded c.requires.small) c.requires.padded)
    (stopped _ c.in_err-write_continuation.field-0.0 c.from_residual.result _ (c.args.metadata.now ++ zeros (c.args.padded - length c.args.metadata.now)) c.from_residual.ensures.1 c.in_err-write_continuation.ensures.puts)

pub returns-clause-puts : goal.returns-clause-puts
returns-clause-puts g c =
    puts_as _ c.put_padded.result _ _ (front_of c.args.padded _ c.args.metadata.now (to_z_pos w32 c.args.padded c.requires.small) c.requires.padded)
    (then_puts _ _ _ _ _ _ _ _ _ c.put_padded.result _ _ c.in_ok-write_continuation.ensures.puts c.put_padded.ensures.puts)
