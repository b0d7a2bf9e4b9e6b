use Rattle.std.proofs.Common.{arith}
use Rattle.ipc_view.specs.Built.{batch_of}
use Rattle.ipc_view.proofs.Answered.{err_from}
use Rattle.ipc_read.proofs.Parts.{numbers_refused, numbers_short, numbers_enough}
use Rattle.ipc_view.proofs.batch.BatchTables.numbers.Goals as goal

pub returns-in_err-part-clause-gives : goal.returns-in_err-part-clause-gives
returns-in_err-part-clause-gives c = err_from c.from_residual.result c.in_err-part.field-0.0 _ _ c.from_residual.ensures.0 c.from_residual.ensures.1
    (numbers_refused (batch_of c.args.self.now) c.args.i c.args.width c.args.count c.in_err-part.field-0.0 c.in_err-part.ensures.gives.err)

pub returns-then-part-size-clause-gives : goal.returns-then-part-size-clause-gives
returns-then-part-size-clause-gives c =
    let g = c.in_ok-part.ensures.gives.ok in
    record { ok = tt; err = numbers_short (batch_of c.args.self.now) c.args.i c.args.width c.args.count c.in_ok-part.part.length g.0 g.1.2 (omega arith) }

pub returns-clause-gives : goal.returns-clause-gives
returns-clause-gives c =
    let g = c.in_ok-part.ensures.gives.ok in
    record { ok = (numbers_enough (batch_of c.args.self.now) c.args.i c.args.width c.args.count g.0 (omega (arith, g.1.2)), (g.1.0, g.1.1, omega arith)); err = tt }
