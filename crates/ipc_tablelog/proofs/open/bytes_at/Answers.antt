use Rattle.std.proofs.Common.{sym, subst}
use Rattle.ipc_tablelog.specs.Opened.{RefusesLog}
use Rattle.ipc_tablelog.proofs.Opening.{read_refused}
use Rattle.ipc_tablelog.proofs.open.bytes_at.Goals as goal

pub returns-in-Err-clause-err : goal.returns-in-Err-clause-err
returns-in-Err-clause-err g c =
    let d = g.D.LogDisk in
    subst (λ e. RefusesLog e (d.content c.args.log.now.disk) (d.faults c.args.log.now.disk) (d.faults c.read.new.self.disk)) (sym c.of_log.ensures)
    (read_refused c.in-Err.error c.args.log.now.is_failed (d.content c.args.log.now.disk) _ _ c.requires.ready c.in-Err.ensures.err)
