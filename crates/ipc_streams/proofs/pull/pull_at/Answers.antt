use Rattle.std.proofs.Common.{arith, length-take-le}
use borrow.Rule.Slice.PartMut.{take_put}
use Rattle.ipc_streams.proofs.Pulled.{consumed_in_place}
use Rattle.ipc_streams.proofs.pull.pull_at.Goals as goal

pub returns-clause-front : goal.returns-clause-front
returns-clause-front g c = take_put _ _ c.args.bytes.now _ (omega (arith, c.requires))

pub returns-clause-put : goal.returns-clause-put
returns-clause-put g c =
    consumed_in_place _ _ c.in_ok-count.count _ c.pull.new.out _ c.args.at (length-take-le _ c.args.bytes.now (omega (arith, c.requires)))
    c.in_ok-count.ensures.count.0 c.in_ok-count.ensures.bytes.0
