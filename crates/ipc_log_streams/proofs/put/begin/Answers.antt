use Rattle.std.proofs.Common.{Ok, Err, inl, subst}
use Rattle.std.proofs.KnownBytes.{Keeps-refl}
use Rattle.ipc_bodies.specs.Puts.{moved}
use Rattle.ipc_concat.specs.Below.{IsFresh}
use Rattle.ipc_tablelog.proofs.Below.{handed}
use Rattle.ipc_log_streams.specs.Streams.{NotBegun}
use Rattle.ipc_log_streams.proofs.Writers.{begun_put, not_begun, starts_keep, writer_of}
use Rattle.ipc_log_streams.proofs.put.begin.Goals as goal

pub returns-in_err-writer-clause-refused : goal.returns-in_err-writer-clause-refused
returns-in_err-writer-clause-refused g c =
    handed _ c.from_residual.result c.in_err-writer.field-0.0 c.from_residual.ensures.1 (NotBegun.before_put (inl c.in_err-writer.ensures.err) (Keeps-refl (g.W.Sink.written c.args.sink.now)))

pub returns-in_err-start-clause-refused : goal.returns-in_err-start-clause-refused
returns-in_err-start-clause-refused g c =
    let w = g.W.Sink in
    let m = moved (w.written c.args.sink.now) (w.written c.start.new.sink) (w.faults c.args.sink.now) (w.faults c.start.new.sink) (w.wants c.args.sink.now) (w.wants c.start.new.sink) in
    let fresh = subst (λ o. IsFresh o c.args.encoding c.in_ok-writer.writer) c.stream_options.ensures c.in_ok-writer.ensures.fresh in
    handed _ c.from_residual-in_err-start.result c.in_err-start.field-0.0 c.from_residual-in_err-start.ensures.1 (not_begun c.args.schema.now c.requires.said c.args.encoding c.in_ok-writer.writer c.start.new.self m fresh c.in_err-start.field-0.0 c.in_err-start.ensures.starts)

pub returns-in_err-start-clause-sink : goal.returns-in_err-start-clause-sink
returns-in_err-start-clause-sink g c =
    let w = g.W.Sink in
    let m = moved (w.written c.args.sink.now) (w.written c.start.new.sink) (w.faults c.args.sink.now) (w.faults c.start.new.sink) (w.wants c.args.sink.now) (w.wants c.start.new.sink) in
    let falls = starts_keep _ m (Err c.in_err-start.field-0.0) c.in_ok-writer.writer c.start.new.self c.args.schema.now c.in_err-start.ensures.starts in
    record { faults = falls.faults; wants = falls.wants; references = c.start.ensures.same_references }

pub returns-clause-writer : goal.returns-clause-writer
returns-clause-writer g c =
    let w = g.W.Sink in
    let m = moved (w.written c.args.sink.now) (w.written c.start.new.sink) (w.faults c.args.sink.now) (w.faults c.start.new.sink) (w.wants c.args.sink.now) (w.wants c.start.new.sink) in
    let fresh = subst (λ o. IsFresh o c.args.encoding c.in_ok-writer.writer) c.stream_options.ensures c.in_ok-writer.ensures.fresh in
    writer_of c.args.schema.now c.requires.said c.args.encoding c.in_ok-writer.writer c.start.new.self m fresh _ c.types_have_no_ids.ensures c.in_ok-start.ensures.starts

pub returns-clause-put : goal.returns-clause-put
returns-clause-put g c =
    let w = g.W.Sink in
    let m = moved (w.written c.args.sink.now) (w.written c.start.new.sink) (w.faults c.args.sink.now) (w.faults c.start.new.sink) (w.wants c.args.sink.now) (w.wants c.start.new.sink) in
    let fresh = subst (λ o. IsFresh o c.args.encoding c.in_ok-writer.writer) c.stream_options.ensures c.in_ok-writer.ensures.fresh in
    begun_put c.args.schema.now c.requires.said c.args.encoding c.in_ok-writer.writer c.start.new.self m fresh c.in_ok-start.ensures.starts

pub returns-clause-sink : goal.returns-clause-sink
returns-clause-sink g c =
    let w = g.W.Sink in
    let m = moved (w.written c.args.sink.now) (w.written c.start.new.sink) (w.faults c.args.sink.now) (w.faults c.start.new.sink) (w.wants c.args.sink.now) (w.wants c.start.new.sink) in
    let falls = starts_keep _ m (Ok tt) c.in_ok-writer.writer c.start.new.self c.args.schema.now c.in_ok-start.ensures.starts in
    record { faults = falls.faults; wants = falls.wants; references = c.start.ensures.same_references }
