use Rattle.std.proofs.Common.{◌∙◌, ap, length, arith}
use Rattle.ipc_record_log.proofs.Walking.{length-first}
use Rattle.ipc_record_log.proofs.begin.begin.Goals as goal

pub returns-clause-bound : goal.returns-clause-bound
returns-clause-bound g c = omega (arith, c.in_ok-write_synced.ensures.bound, ap length (c.deref.ensures.value ∙ c.in_ok-bytes.ensures), length-first c.args.first.now)
