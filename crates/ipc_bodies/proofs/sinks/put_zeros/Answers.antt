use Rattle.std.proofs.Common.{arith}
use Rattle.std.proofs.lemmas.List.{take-replicate}
use Rattle.arrow_spec.specs.Layout.{zeros}
use Rattle.ipc_bodies.proofs.Encoded.{text_as}
use Rattle.ipc_bodies.proofs.sinks.put_zeros.Goals as goal

pub returns-clause-puts : goal.returns-clause-puts
returns-clause-puts g c = text_as c.args.encoding _ c.put_bytes_as.result _ (zeros c.args.count) (take-replicate c.args.count 64 0 (omega arith)) c.put_bytes_as.ensures.puts
