use Rattle.std.proofs.Common.{◌∙◌, ap, arith, inr, sym, subst}
use Rattle.ipc_log_disk.specs.Crashes.{Among, Elapses}
use Rattle.ipc_log_records.proofs.Writing.{handed}
use Rattle.ipc_record_log.proofs.ReadOn.{elapses_on}
use Rattle.ipc_tablelog.proofs.Logs.{OpenCause, not_read, not_walked, opened, since_on}
use Rattle.ipc_tablelog.proofs.table_log.TableLog.open.Goals as goal

pub returns-in_err-log-clause-err : goal.returns-in_err-log-clause-err
returns-in_err-log-clause-err g c =
    let d = g.D.LogDisk in
    handed _ c.from_residual.result c.in_err-log.field-0.0 c.from_residual.ensures.1 (not_walked d.content d.faults d.wants c.in_err-log.field-0.0.error c.args.disk c.in_err-log.field-0.0.object c.in_err-log.ensures.err)

pub returns-in-Ok-clause-opened : goal.returns-in-Ok-clause-opened
returns-in-Ok-clause-opened g c = λ b told.
    let d = g.D.LogDisk in
    let l = c.in_ok-log.log in
    let kept = c.schema_in.ensures.kept in
    let here = c.in_ok-log.ensures.content ∙ told in
    opened (d.content l.disk) (d.content c.schema_in.new.log.disk) (d.images l.disk) (d.images c.schema_in.new.log.disk) c.in-Ok.schema b l.spans.items here kept.content (λ x left. (kept.images x).0 left) (c.in_ok-log.ensures.opened b told)
    (l.ready c.in_ok-log.ensures.ok b here).log.spanned c.in-Ok.ensures.some c.in-Ok.ensures.first c.in-Ok.ensures.ones c.in-Ok.ensures.is_regular

pub returns-in-Ok-clause-since : goal.returns-in-Ok-clause-since
returns-in-Ok-clause-since g c =
    let kept = c.schema_in.ensures.kept in
    since_on c.in_ok-log.ensures.since c.in_ok-log.ensures.time kept.time kept.since (g.met.D.LogDisk.counts_now c.in_ok-log.log.disk)

pub returns-in-Ok-clause-time : goal.returns-in-Ok-clause-time
returns-in-Ok-clause-time g c = elapses_on c.in_ok-log.ensures.time c.schema_in.ensures.kept.time

pub returns-in-Err-clause-since : goal.returns-in-Err-clause-since
returns-in-Err-clause-since g c =
    let d = g.D.LogDisk in
    let kept = c.schema_in.ensures.kept in
    subst (λ x. Among (d.images c.args.disk) (d.images_since x (d.moment c.args.disk))) (sym c.into_inner.ensures)
    (since_on c.in_ok-log.ensures.since c.in_ok-log.ensures.time kept.time kept.since (g.met.D.LogDisk.counts_now c.in_ok-log.log.disk))

pub returns-in-Err-clause-time : goal.returns-in-Err-clause-time
returns-in-Err-clause-time g c =
    let d = g.D.LogDisk in
    subst (λ x. Elapses (d.moment c.args.disk) (d.moment x) (d.images_since c.args.disk) (d.images_since x)) (sym c.into_inner.ensures) (elapses_on c.in_ok-log.ensures.time c.schema_in.ensures.kept.time)

pub returns-in-Err-clause-err : goal.returns-in-Err-clause-err
returns-in-Err-clause-err g c =
    let d = g.D.LogDisk in
    subst (λ x. OpenCause d.content d.faults d.wants c.in-Err.error c.args.disk x) (sym c.into_inner.ensures)
    (not_read d.content d.faults d.wants c.in-Err.error c.args.disk c.in_ok-log.log.disk c.schema_in.new.log.disk c.in_ok-log.ensures.content c.in_ok-log.ensures.later c.in-Err.ensures.err)

pub returns-in_err-log-clause-left : goal.returns-in_err-log-clause-left
returns-in_err-log-clause-left g c = handed _ c.from_residual.result c.in_err-log.field-0.0 c.from_residual.ensures.1 c.in_err-log.ensures.left

pub returns-in-Ok-clause-later : goal.returns-in-Ok-clause-later
returns-in-Ok-clause-later g c = omega (arith, c.in_ok-log.ensures.later, c.schema_in.ensures.kept.faults)

pub returns-in-Err-clause-left : goal.returns-in-Err-clause-left
returns-in-Err-clause-left g c = inr (ap g.D.LogDisk.content c.into_inner.ensures ∙ c.schema_in.ensures.kept.content ∙ c.in_ok-log.ensures.content)

pub returns-in-Err-clause-later : goal.returns-in-Err-clause-later
returns-in-Err-clause-later g c = omega (arith, c.in_ok-log.ensures.later, c.schema_in.ensures.kept.faults, ap g.D.LogDisk.faults c.into_inner.ensures)
