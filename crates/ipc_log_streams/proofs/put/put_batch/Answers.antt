use Rattle.std.proofs.Common.{Ok, Err}
use Rattle.ipc_bodies.specs.Puts.{moved}
use Rattle.ipc_concat.proofs.Writing.{writes_keep}
use Rattle.ipc_tablelog.proofs.Below.{handed}
use Rattle.ipc_log_streams.proofs.Putting.{next_cause, next_put, next_stopped, next_writer, not_read, read_cause}
use Rattle.ipc_log_streams.proofs.put.put_batch.Goals as goal

pub returns-in_err-batch-clause-refused : goal.returns-in_err-batch-clause-refused
returns-in_err-batch-clause-refused g c =
    let d = g.D.LogDisk in
    let l = c.args.log.now in
    handed _ c.from_residual.result c.in_err-batch.field-0.0 c.from_residual.ensures.1
    (not_read c.in_err-batch.field-0.0 l.log.is_failed (d.content l.log.disk) l.schema _ _ c.requires.ready c.in_err-batch.ensures.err c.args.writer.now c.args.i (g.W.Sink.written c.args.sink.now) _ _ c.requires.writer.schema)

pub returns-in_err-batch-clause-cause : goal.returns-in_err-batch-clause-cause
returns-in_err-batch-clause-cause g c =
    let d = g.D.LogDisk in
    let l = c.args.log.now in
    handed _ c.from_residual.result c.in_err-batch.field-0.0 c.from_residual.ensures.1 (read_cause c.in_err-batch.field-0.0 l.log.is_failed (d.content l.log.disk) l.schema _ _ c.requires.ready c.in_err-batch.ensures.err _ _)

pub returns-in_err-write-clause-refused : goal.returns-in_err-write-clause-refused
returns-in_err-write-clause-refused g c =
    let d = g.D.LogDisk in
    let w = g.W.Sink in
    let m = moved (w.written c.args.sink.now) (w.written c.write.new.sink) (w.faults c.args.sink.now) (w.faults c.write.new.sink) (w.wants c.args.sink.now) (w.wants c.write.new.sink) in
    let l = c.args.log.now in
    let y = c.in_ok-batch.batch in
    handed _ c.from_residual-in_err-write.result c.in_err-write.field-0.0 c.from_residual-in_err-write.ensures.1
    (λ t before h p. next_stopped (d.content l.log.disk) l.schema c.args.writer.now c.write.new.self m y c.args.i c.requires.writer c.in_ok-batch.ensures.kinds c.is_sound.ensures c.in_err-write.field-0.0 c.in_err-write.ensures.writes t before h (c.in_ok-batch.ensures.batch t h) p)

pub returns-in_err-write-clause-cause : goal.returns-in_err-write-clause-cause
returns-in_err-write-clause-cause g c =
    let d = g.D.LogDisk in
    let w = g.W.Sink in
    let m = moved (w.written c.args.sink.now) (w.written c.write.new.sink) (w.faults c.args.sink.now) (w.faults c.write.new.sink) (w.wants c.args.sink.now) (w.wants c.write.new.sink) in
    let l = c.args.log.now in
    handed _ c.from_residual-in_err-write.result c.in_err-write.field-0.0 c.from_residual-in_err-write.ensures.1
    (next_cause (d.content l.log.disk) l.schema c.args.writer.now c.write.new.self m c.in_ok-batch.batch c.args.i c.requires.writer c.in_ok-batch.ensures.kinds c.is_sound.ensures c.in_err-write.field-0.0 _ _ c.in_err-write.ensures.writes)

pub returns-in_err-write-clause-sink : goal.returns-in_err-write-clause-sink
returns-in_err-write-clause-sink g c =
    let w = g.W.Sink in
    let m = moved (w.written c.args.sink.now) (w.written c.write.new.sink) (w.faults c.args.sink.now) (w.faults c.write.new.sink) (w.wants c.args.sink.now) (w.wants c.write.new.sink) in
    let falls = writes_keep _ m (Err c.in_err-write.field-0.0) c.args.writer.now c.write.new.self c.in_ok-batch.batch c.in_err-write.ensures.writes in
    record { faults = falls.faults; wants = falls.wants; references = c.write.ensures.same_references }

pub returns-clause-writer : goal.returns-clause-writer
returns-clause-writer g c =
    let d = g.D.LogDisk in
    let w = g.W.Sink in
    let m = moved (w.written c.args.sink.now) (w.written c.write.new.sink) (w.faults c.args.sink.now) (w.faults c.write.new.sink) (w.wants c.args.sink.now) (w.wants c.write.new.sink) in
    next_writer (d.content c.args.log.now.log.disk) c.args.log.now.schema c.args.writer.now c.write.new.self m c.in_ok-batch.batch c.args.i c.requires.writer c.in_ok-write.ensures.writes

pub returns-clause-encoding : goal.returns-clause-encoding
returns-clause-encoding g c = c.in_ok-write.ensures.writes.sends.stays.encoding

pub returns-clause-put : goal.returns-clause-put
returns-clause-put g c = λ t before h p.
    let d = g.D.LogDisk in
    let w = g.W.Sink in
    let m = moved (w.written c.args.sink.now) (w.written c.write.new.sink) (w.faults c.args.sink.now) (w.faults c.write.new.sink) (w.wants c.args.sink.now) (w.wants c.write.new.sink) in
    next_put (d.content c.args.log.now.log.disk) c.args.log.now.schema c.args.writer.now c.write.new.self m c.in_ok-batch.batch c.args.i c.requires.writer c.in_ok-write.ensures.writes t before (c.in_ok-batch.ensures.batch t h) p

pub returns-clause-sink : goal.returns-clause-sink
returns-clause-sink g c =
    let w = g.W.Sink in
    let m = moved (w.written c.args.sink.now) (w.written c.write.new.sink) (w.faults c.args.sink.now) (w.faults c.write.new.sink) (w.wants c.args.sink.now) (w.wants c.write.new.sink) in
    let falls = writes_keep _ m (Ok tt) c.args.writer.now c.write.new.self c.in_ok-batch.batch c.in_ok-write.ensures.writes in
    record { faults = falls.faults; wants = falls.wants; references = c.write.ensures.same_references }
