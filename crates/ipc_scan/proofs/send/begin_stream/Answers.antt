use Rattle.std.proofs.Common.{◌≡◌, None, Ok, Err, sym, ◌∙◌, subst}
use Rattle.arrow_types.specs.Schemas.{fields_in}
use Rattle.ipc_bodies.specs.Encodings.{text_of}
use Rattle.ipc_bodies.specs.Puts.{moved}
use Rattle.ipc_files.proofs.Errors.{is_err}
use Rattle.laws_walk.specs.Below.{Starts, plain_fields}
use Rattle.laws_walk.specs.Sends.{IsNewWriter}
use Rattle.laws_walk.proofs.Begins.{new_of}
use Rattle.ipc_scan.specs.Sends.{scanning}
use Rattle.ipc_scan.proofs.ScanStarts.{begins, begun, start_cause, writer_begun}
use Rattle.ipc_scan.proofs.send.begin_stream.Goals as goal

pub returns-in_err-start-clause-begins : goal.returns-in_err-start-clause-begins
returns-in_err-start-clause-begins g c = λ x encoding start is.
    let m = moved (g.W.Sink.written c.args.sink.now) (g.W.Sink.written c.start.new.sink) (g.W.Sink.faults c.args.sink.now) (g.W.Sink.faults c.start.new.sink) (g.W.Sink.wants c.args.sink.now) (g.W.Sink.wants c.start.new.sink) in
    let e : c.from_residual-in_err-start.result ≡ Err c.in_err-start.field-0.0 = is_err _ _ _ c.from_residual-in_err-start.ensures.0 c.from_residual-in_err-start.ensures.1 (λ f h. h) in
    begins x c.args.scanner.now c.in_ok-writer.writer c.start.new.self m is (new_of (scanning c.args.scanner.now.filter x) c.metadata.result.now c.args.encoding c.in_ok-writer.writer (c.metadata.ensures ∙ is.scanner.metadata) encoding c.in_ok-writer.ensures.new) (sym start) c.from_residual-in_err-start.result c.in_err-start.field-0.0 e
    (subst (λ s. Starts (text_of c.in_ok-writer.writer.encoding) m (Err c.in_err-start.field-0.0) c.in_ok-writer.writer c.start.new.self s None) (c.deref-2.ensures ∙ c.schema-2.ensures) c.in_err-start.ensures.starts)

pub returns-in_err-start-clause-cause : goal.returns-in_err-start-clause-cause
returns-in_err-start-clause-cause g c =
    let m = moved (g.W.Sink.written c.args.sink.now) (g.W.Sink.written c.start.new.sink) (g.W.Sink.faults c.args.sink.now) (g.W.Sink.faults c.start.new.sink) (g.W.Sink.wants c.args.sink.now) (g.W.Sink.wants c.start.new.sink) in
    let e : c.from_residual-in_err-start.result ≡ Err c.in_err-start.field-0.0 = is_err _ _ _ c.from_residual-in_err-start.ensures.0 c.from_residual-in_err-start.ensures.1 (λ f h. h) in
    start_cause c.args.scanner.now c.args.encoding c.in_ok-writer.writer c.start.new.self m c.requires.scanner (subst (λ f. IsNewWriter f c.args.encoding c.in_ok-writer.writer) c.metadata.ensures c.in_ok-writer.ensures.new) c.from_residual-in_err-start.result c.in_err-start.field-0.0 e
    (subst (λ s. Starts (text_of c.in_ok-writer.writer.encoding) m (Err c.in_err-start.field-0.0) c.in_ok-writer.writer c.start.new.self s None) (c.deref-2.ensures ∙ c.schema-2.ensures) c.in_err-start.ensures.starts)

pub returns-clause-begins : goal.returns-clause-begins
returns-clause-begins g c = λ x encoding start is.
    let m = moved (g.W.Sink.written c.args.sink.now) (g.W.Sink.written c.start.new.sink) (g.W.Sink.faults c.args.sink.now) (g.W.Sink.faults c.start.new.sink) (g.W.Sink.wants c.args.sink.now) (g.W.Sink.wants c.start.new.sink) in
    begun x c.args.scanner.now c.in_ok-writer.writer c.start.new.self m is (new_of (scanning c.args.scanner.now.filter x) c.metadata.result.now c.args.encoding c.in_ok-writer.writer (c.metadata.ensures ∙ is.scanner.metadata) encoding c.in_ok-writer.ensures.new) (sym start)
    (subst (λ s. Starts (text_of c.in_ok-writer.writer.encoding) m (Ok tt) c.in_ok-writer.writer c.start.new.self s None) (c.deref-2.ensures ∙ c.schema-2.ensures) c.in_ok-start.ensures.starts)

pub returns-clause-writer : goal.returns-clause-writer
returns-clause-writer g c =
    let m = moved (g.W.Sink.written c.args.sink.now) (g.W.Sink.written c.start.new.sink) (g.W.Sink.faults c.args.sink.now) (g.W.Sink.faults c.start.new.sink) (g.W.Sink.wants c.args.sink.now) (g.W.Sink.wants c.start.new.sink) in
    writer_begun c.args.scanner.now c.args.encoding c.in_ok-writer.writer c.start.new.self m c.requires.scanner (subst (λ f. IsNewWriter f c.args.encoding c.in_ok-writer.writer) c.metadata.ensures c.in_ok-writer.ensures.new)
    (subst (λ s. plain_fields (fields_in s) ≡ fields_in s) (c.deref.ensures ∙ c.schema.ensures) c.types_have_no_ids.ensures)
    (subst (λ s. Starts (text_of c.in_ok-writer.writer.encoding) m (Ok tt) c.in_ok-writer.writer c.start.new.self s None) (c.deref-2.ensures ∙ c.schema-2.ensures) c.in_ok-start.ensures.starts)
