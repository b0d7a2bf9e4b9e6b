use Rattle.std.proofs.Common.{Err, ◌∙◌, ap, subst, sym}
use Rattle.std.specs.Prelude.{IfErr}
use Rattle.std.proofs.KnownBytes.{Keeps-refl}
use Rattle.ipc_bodies.specs.Encodings.{text_of}
use Rattle.ipc_log_disk.specs.Crashes.{Among}
use Rattle.ipc_tablelog.proofs.Logs.{since_on}
use Rattle.ipc_log_streams.specs.Streams.{AddsLog, AddsPart, PutCause}
use Rattle.ipc_log_streams.proofs.Opened.{cause_so, complete_so, keeps_so, not_opened, open_cause, part_so, whole_so}
use Rattle.ipc_log_streams.proofs.put.put_log_as.Goals as goal

pub returns-in-Ok-clause-whole : goal.returns-in-Ok-clause-whole
returns-in-Ok-clause-whole g c =
    let d = g.D.LogDisk in
    let w = g.W.Sink in
    let l = c.in-Ok.log in
    whole_so (d.content c.args.disk) (d.content l.log.disk) (d.images l.log.disk) l.schema c.in-Ok.ensures.opened c.in-Ok.ensures.content c.put_stream-done.result (λ b. AddsLog b (text_of c.args.encoding) (w.written c.args.sink.now) (w.written c.put_stream-done.new.sink)) c.put_stream-done.ensures.whole

pub returns-in-Ok-clause-part : goal.returns-in-Ok-clause-part
returns-in-Ok-clause-part g c =
    let d = g.D.LogDisk in
    let w = g.W.Sink in
    let l = c.in-Ok.log in
    part_so (d.content c.args.disk) (d.content l.log.disk) (d.images l.log.disk) l.schema c.in-Ok.ensures.opened c.in-Ok.ensures.content c.put_stream-done.result
    (λ e b. AddsPart e b (text_of c.args.encoding) (w.written c.args.sink.now) (w.written c.put_stream-done.new.sink) (w.wants c.args.sink.now) (w.wants c.put_stream-done.new.sink)) c.put_stream-done.ensures.part

pub returns-in-Ok-clause-cause : goal.returns-in-Ok-clause-cause
returns-in-Ok-clause-cause g c =
    let d = g.D.LogDisk in
    let w = g.W.Sink in
    subst (λ x. IfErr c.put_stream-done.result (λ e. PutCause e (d.faults c.args.disk) (d.faults x) (w.faults c.args.sink.now) (w.faults c.put_stream-done.new.sink))) (sym c.into_inner.ensures) (cause_so c.put_stream-done.result _ _ _ _ _ c.in-Ok.ensures.later c.put_stream-done.ensures.cause)

pub returns-in-Ok-clause-complete : goal.returns-in-Ok-clause-complete
returns-in-Ok-clause-complete g c = complete_so c.put_stream-done.result (g.D.LogDisk.content c.args.disk) (text_of c.args.encoding) _ _ _ _ _ _ _ _ (returns-in-Ok-clause-part g c) (returns-in-Ok-clause-cause g c)

pub returns-in-Ok-clause-bytes : goal.returns-in-Ok-clause-bytes
returns-in-Ok-clause-bytes g c =
    keeps_so c.put_stream-done.result _ _ _ _ _ _ (ap g.D.LogDisk.content c.into_inner.ensures ∙ c.put_stream-done.ensures.kept.content ∙ c.in-Ok.ensures.content)

pub returns-in-Ok-clause-since : goal.returns-in-Ok-clause-since
returns-in-Ok-clause-since g c =
    let d = g.D.LogDisk in
    let kept = c.put_stream-done.ensures.kept in
    subst (λ x. Among (d.images c.args.disk) (d.images_since x (d.moment c.args.disk))) (sym c.into_inner.ensures) (since_on c.in-Ok.ensures.since c.in-Ok.ensures.time kept.time kept.since (g.met.D.LogDisk.counts_now c.in-Ok.log.log.disk))

pub returns-in-Err-clause-part : goal.returns-in-Err-clause-part
returns-in-Err-clause-part g c =
    let w = g.W.Sink in
    not_opened c.in-Err.refused.error (g.D.LogDisk.content c.args.disk) _ _ _ _ (text_of c.args.encoding) (w.written c.args.sink.now) (w.written c.args.sink.now) _ _ (Keeps-refl (w.written c.args.sink.now)) c.in-Err.ensures.err

pub returns-in-Err-clause-cause : goal.returns-in-Err-clause-cause
returns-in-Err-clause-cause g c = open_cause c.in-Err.refused.error (g.D.LogDisk.content c.args.disk) _ _ _ _ _ _ c.in-Err.ensures.err

pub returns-in-Err-clause-complete : goal.returns-in-Err-clause-complete
returns-in-Err-clause-complete g c =
    let w = g.W.Sink in
    complete_so (Err c.in-Err.refused.error) (g.D.LogDisk.content c.args.disk) (text_of c.args.encoding) (w.written c.args.sink.now) (w.written c.args.sink.now) (w.wants c.args.sink.now) (w.wants c.args.sink.now) _ _ _ _ (returns-in-Err-clause-part g c) (returns-in-Err-clause-cause g c)
