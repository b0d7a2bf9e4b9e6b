use Rattle.std.proofs.lemmas.Result.{IfOk-weaker}
use Rattle.ipc_log_records.proofs.Writing.{handed, if_err}
use Rattle.ipc_tablelog.proofs.Opening.{record_at, record_refused}
use Rattle.ipc_tablelog.proofs.open.record_at.Goals as goal

pub returns-in_err-bytes-clause-err : goal.returns-in_err-bytes-clause-err
returns-in_err-bytes-clause-err g c = handed _ c.from_residual.result c.in_err-bytes.field-0.0 c.from_residual.ensures.1 c.in_err-bytes.ensures.err

pub returns-clause-record : goal.returns-clause-record
returns-clause-record g c =
    IfOk-weaker c.record_in.result _ _ (λ s read. record_at (g.D.LogDisk.content c.args.log.now.disk) c.args.i c.in_ok-bytes.bytes.items s c.in_ok-bytes.ensures.bytes read) c.record_in.ensures.record

pub returns-clause-err : goal.returns-clause-err
returns-clause-err g c =
    if_err c.record_in.result _ _ (λ e unread. record_refused e (g.D.LogDisk.content c.args.log.now.disk) _ _ c.args.i c.in_ok-bytes.bytes.items c.in_ok-bytes.ensures.bytes unread) c.record_in.ensures.err
