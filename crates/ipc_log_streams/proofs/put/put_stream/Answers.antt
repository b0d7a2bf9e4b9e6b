use Rattle.std.proofs.Common.{◌≤◌, List, arith, refl, subst, sym}
use Rattle.arrow_types.specs.Schemas.{Keyed}
use Rattle.ipc_bodies.specs.Puts.{moved}
use Rattle.ipc_concat.proofs.Beginning.{going_so}
use Rattle.ipc_io.proofs.Kept.{sink_kept_on}
use Rattle.ipc_tablelog.specs.Below.{WasSaid}
use Rattle.ipc_tablelog.proofs.Below.{handed}
use Rattle.ipc_tablelog.proofs.Opening.{nothing_read}
use Rattle.ipc_log_streams.specs.Streams.{NotBegun}
use Rattle.ipc_log_streams.proofs.Ending.{batches_part, begin_cause, cause_of, log_part, log_whole, none_added}
use Rattle.ipc_log_streams.proofs.Putting.{cause_before, writer_as}
use Rattle.ipc_log_streams.proofs.put.put_stream.Goals as goal

pub begin-requires : goal.begin-requires
begin-requires g c = record { said = subst WasSaid (sym c.schema.ensures) c.requires.said }

pub returns-in_err-writer-clause-part : goal.returns-in_err-writer-clause-part
returns-in_err-writer-clause-part g c =
    let l = c.args.log.now in
    let w = g.W.Sink in
    let m = moved (w.written c.args.sink.now) (w.written c.begin.new.sink) (w.faults c.args.sink.now) (w.faults c.begin.new.sink) (w.wants c.args.sink.now) (w.wants c.begin.new.sink) in
    let e = c.in_err-writer.field-0.0 in
    handed _ c.from_residual.result e c.from_residual.ensures.1
    (λ t h. none_added (g.D.LogDisk.content l.log.disk) l.schema c.requires.said c.args.encoding m e t h (subst (λ (s : List Keyed). NotBegun e s c.args.encoding m) c.schema.ensures c.in_err-writer.ensures.refused))

pub returns-in_err-writer-clause-cause : goal.returns-in_err-writer-clause-cause
returns-in_err-writer-clause-cause g c =
    let w = g.W.Sink in
    let m = moved (w.written c.args.sink.now) (w.written c.begin.new.sink) (w.faults c.args.sink.now) (w.faults c.begin.new.sink) (w.wants c.args.sink.now) (w.wants c.begin.new.sink) in
    handed _ c.from_residual.result c.in_err-writer.field-0.0 c.from_residual.ensures.1 (begin_cause c.schema.result.now c.args.encoding m c.in_err-writer.field-0.0 c.in_err-writer.ensures.refused _ _)

pub returns-in_err-writer-clause-kept : goal.returns-in_err-writer-clause-kept
returns-in_err-writer-clause-kept g c = nothing_read c.args.log.now.log.disk (g.met.D.LogDisk.counts_now c.args.log.now.log.disk) (g.met.D.LogDisk.only_now c.args.log.now.log.disk)

pub put_batches-requires-clause-writer : goal.put_batches-requires-clause-writer
put_batches-requires-clause-writer g c =
    let k = c.in_ok-writer.ensures.writer in
    writer_as c.schema.result.now c.args.log.now.schema c.args.encoding c.in_ok-writer.writer.encoding c.in_ok-writer.writer (sym c.schema.ensures) k.encoding k

pub returns-in_err-put_batches-clause-part : goal.returns-in_err-put_batches-clause-part
returns-in_err-put_batches-clause-part g c =
    let l = c.args.log.now in
    let x = c.in_ok-writer.writer in
    let k = writer_as c.schema.result.now l.schema c.args.encoding c.args.encoding x (sym c.schema.ensures) refl c.in_ok-writer.ensures.writer in
    handed _ c.from_residual-in_err-put_batches.result c.in_err-put_batches.field-0.0 c.from_residual-in_err-put_batches.ensures.1
    (batches_part (g.D.LogDisk.content l.log.disk) l.schema c.args.encoding x x _ _ (g.W.Sink.written c.put_batches.new.sink) _ k c.in_ok-writer.ensures.put c.in_err-put_batches.field-0.0 _ _ _ c.in_ok-writer.ensures.sink.wants c.in_err-put_batches.ensures.refused)

pub returns-in_err-put_batches-clause-cause : goal.returns-in_err-put_batches-clause-cause
returns-in_err-put_batches-clause-cause g c =
    handed _ c.from_residual-in_err-put_batches.result c.in_err-put_batches.field-0.0 c.from_residual-in_err-put_batches.ensures.1 (cause_before _ _ _ _ _ _ _ (omega arith) c.in_ok-writer.ensures.sink.faults c.in_err-put_batches.ensures.cause)

pub returns-in_err-put_batches-clause-kept : goal.returns-in_err-put_batches-clause-kept
returns-in_err-put_batches-clause-kept g c = c.in_err-put_batches.ensures.kept

pub returns-in_err-put_batches-clause-sink : goal.returns-in_err-put_batches-clause-sink
returns-in_err-put_batches-clause-sink g c = sink_kept_on c.in_ok-writer.ensures.sink c.in_err-put_batches.ensures.sink

pub end-requires : goal.end-requires
end-requires g c = record { writer = going_so c.args.log.now.schema c.in_ok-writer.writer.encoding c.put_batches.new.writer c.in_ok-put_batches.ensures.writer }

pub returns-clause-whole : goal.returns-clause-whole
returns-clause-whole g c =
    let l = c.args.log.now in
    let x = c.in_ok-writer.writer in
    let k = writer_as c.schema.result.now l.schema c.args.encoding c.args.encoding x (sym c.schema.ensures) refl c.in_ok-writer.ensures.writer in
    log_whole (g.D.LogDisk.content l.log.disk) l.schema c.args.encoding x c.put_batches.new.writer _ _ _ _ k c.in_ok-writer.ensures.put c.in_ok-put_batches.ensures.writer c.in_ok-put_batches.ensures.put c.end.result c.end.ensures.ended

pub returns-clause-part : goal.returns-clause-part
returns-clause-part g c =
    let l = c.args.log.now in
    let x = c.in_ok-writer.writer in
    let k = writer_as c.schema.result.now l.schema c.args.encoding c.args.encoding x (sym c.schema.ensures) refl c.in_ok-writer.ensures.writer in
    let before : g.W.Sink.wants c.args.sink.now ≤ g.W.Sink.wants c.put_batches.new.sink = omega (arith, c.in_ok-writer.ensures.sink.wants, c.in_ok-put_batches.ensures.sink.wants) in
    log_part (g.D.LogDisk.content l.log.disk) l.schema c.args.encoding x c.put_batches.new.writer _ _ _ _ k c.in_ok-writer.ensures.put c.in_ok-put_batches.ensures.writer c.in_ok-put_batches.ensures.put c.end.result _ _ _ before c.end.ensures.refused

pub returns-clause-cause : goal.returns-clause-cause
returns-clause-cause g c = cause_of c.end.result _ _ _ _ _ (omega (arith, c.in_ok-writer.ensures.sink.faults, c.in_ok-put_batches.ensures.sink.faults)) c.end.ensures.cause

pub returns-clause-kept : goal.returns-clause-kept
returns-clause-kept g c = c.in_ok-put_batches.ensures.kept

pub returns-clause-sink : goal.returns-clause-sink
returns-clause-sink g c = sink_kept_on (sink_kept_on c.in_ok-writer.ensures.sink c.in_ok-put_batches.ensures.sink) c.end.ensures.sink
