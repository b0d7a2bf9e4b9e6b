use Rattle.std.proofs.Common.{◌≡◌, inl, refl}
use Rattle.std.specs.Prelude.{None}
use Rattle.ipc_log_disk.specs.Below.{IsOfDisk}
use Rattle.ipc_log_records.proofs.Writing.{handed}
use Rattle.ipc_tablelog.proofs.Logs.{begun, create_cause}
use Rattle.ipc_tablelog.proofs.table_log.TableLog.create.Goals as goal

pub returns-in_err-log-in-Ok-clause-err : goal.returns-in_err-log-in-Ok-clause-err
returns-in_err-log-in-Ok-clause-err g c =
    let d = g.D.LogDisk in
    let e = c.in_err-log-in-Ok.field-0.0 in
    handed _ c.from_residual.result e c.from_residual.ensures.1
    (create_cause e.error c.args.schema.now None (e.object ≡ c.args.disk) (IsOfDisk e.error (d.faults c.args.disk) (d.faults e.object) (d.wants c.args.disk) (d.wants e.object)) c.in_err-log-in-Ok.ensures.err)

pub returns-in_ok-log-in-Ok-clause-created : goal.returns-in_ok-log-in-Ok-clause-created
returns-in_ok-log-in-Ok-clause-created g c = λ reg b told.
    let l = c.in_ok-log-in-Ok.log in
    begun (g.D.LogDisk.content l.disk) (g.D.LogDisk.images l.disk) c.args.schema.now c.in-Ok.copy c.in-Ok.bytes.items c.deref.result.now c.deref.ensures.value c.in-Ok.ensures.copy (c.in_ok-log-in-Ok.ensures.created b told) (c.in-Ok.ensures.is_record reg) reg

pub returns-in-Err-clause-err : goal.returns-in-Err-clause-err
returns-in-Err-clause-err g c = inl (c.in-Err.ensures.err, refl)
