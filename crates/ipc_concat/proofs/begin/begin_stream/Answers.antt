use Rattle.std.proofs.Common.{◌≡◌, None, Ok, Err, refl, ◌∙◌, subst}
use Rattle.arrow_types.specs.Schemas.{fields_in}
use Rattle.ipc_bodies.specs.Encodings.{text_of}
use Rattle.ipc_bodies.specs.Puts.{moved}
use Rattle.laws_walk.proofs.Below.{is_err}
use Rattle.laws_walk.specs.Below.{plain_fields, Starts}
use Rattle.laws_walk.specs.Sends.{IsNewWriter}
use Rattle.ipc_concat.proofs.Beginning.{has_begun, has_not_begun, memory_begins, start_cause, writer_so}
use Rattle.ipc_concat.proofs.Ending.{with_cause}
use Rattle.ipc_concat.proofs.begin.begin_stream.Goals as goal

pub returns-in_err-writer-clause-begins : goal.returns-in_err-writer-clause-begins
returns-in_err-writer-clause-begins g c = λ b file.
    let e : c.from_residual.result ≡ Err c.in_err-writer.field-0.0 = is_err _ _ _ c.from_residual.ensures.0 c.from_residual.ensures.1 (λ f h. h) in
    memory_begins c.from_residual.result c.in_err-writer.field-0.0 b c.args.reader.now c.args.encoding (g.W.Sink.written c.args.sink.now) _ _ e c.in_err-writer.ensures.err

pub returns-in_err-start-clause-begins : goal.returns-in_err-start-clause-begins
returns-in_err-start-clause-begins g c = λ b file.
    let m = moved (g.W.Sink.written c.args.sink.now) (g.W.Sink.written c.start.new.sink) (g.W.Sink.faults c.args.sink.now) (g.W.Sink.faults c.start.new.sink) (g.W.Sink.wants c.args.sink.now) (g.W.Sink.wants c.start.new.sink) in
    let e : c.from_residual-in_err-start.result ≡ Err c.in_err-start.field-0.0 = is_err _ _ _ c.from_residual-in_err-start.ensures.0 c.from_residual-in_err-start.ensures.1 (λ f h. h) in
    has_not_begun b c.args.reader.now c.args.encoding c.in_ok-writer.writer c.start.new.self m c.requires.unread file (subst (λ f. IsNewWriter f c.args.encoding c.in_ok-writer.writer) c.metadata.ensures c.in_ok-writer.ensures.new) c.from_residual-in_err-start.result c.in_err-start.field-0.0 e
    (subst (λ s. Starts (text_of c.in_ok-writer.writer.encoding) m (Err c.in_err-start.field-0.0) c.in_ok-writer.writer c.start.new.self s None) (c.deref-2.ensures ∙ c.schema-2.ensures) c.in_err-start.ensures.starts)

pub returns-in_err-start-clause-cause : goal.returns-in_err-start-clause-cause
returns-in_err-start-clause-cause g c =
    let m = moved (g.W.Sink.written c.args.sink.now) (g.W.Sink.written c.start.new.sink) (g.W.Sink.faults c.args.sink.now) (g.W.Sink.faults c.start.new.sink) (g.W.Sink.wants c.args.sink.now) (g.W.Sink.wants c.start.new.sink) in
    let e : c.from_residual-in_err-start.result ≡ Err c.in_err-start.field-0.0 = is_err _ _ _ c.from_residual-in_err-start.ensures.0 c.from_residual-in_err-start.ensures.1 (λ f h. h) in
    with_cause c.from_residual-in_err-start.result c.in_err-start.field-0.0 _ e
    (start_cause c.args.reader.now c.args.encoding c.in_ok-writer.writer c.start.new.self m c.in_err-start.field-0.0 c.requires.unread (subst (λ f. IsNewWriter f c.args.encoding c.in_ok-writer.writer) c.metadata.ensures c.in_ok-writer.ensures.new)
    (subst (λ s. Starts (text_of c.in_ok-writer.writer.encoding) m (Err c.in_err-start.field-0.0) c.in_ok-writer.writer c.start.new.self s None) (c.deref-2.ensures ∙ c.schema-2.ensures) c.in_err-start.ensures.starts))

pub returns-clause-writer : goal.returns-clause-writer
returns-clause-writer g c =
    let m = moved (g.W.Sink.written c.args.sink.now) (g.W.Sink.written c.start.new.sink) (g.W.Sink.faults c.args.sink.now) (g.W.Sink.faults c.start.new.sink) (g.W.Sink.wants c.args.sink.now) (g.W.Sink.wants c.start.new.sink) in
    writer_so c.args.reader.now c.args.encoding c.in_ok-writer.writer c.start.new.self m c.requires.unread (subst (λ f. IsNewWriter f c.args.encoding c.in_ok-writer.writer) c.metadata.ensures c.in_ok-writer.ensures.new)
    (subst (λ s. plain_fields (fields_in s) ≡ fields_in s) (c.deref.ensures ∙ c.schema.ensures) c.types_have_no_ids.ensures)
    (subst (λ s. Starts (text_of c.in_ok-writer.writer.encoding) m (Ok tt) c.in_ok-writer.writer c.start.new.self s None) (c.deref-2.ensures ∙ c.schema-2.ensures) c.in_ok-start.ensures.starts)

pub returns-clause-begins : goal.returns-clause-begins
returns-clause-begins g c = λ b file.
    let m = moved (g.W.Sink.written c.args.sink.now) (g.W.Sink.written c.start.new.sink) (g.W.Sink.faults c.args.sink.now) (g.W.Sink.faults c.start.new.sink) (g.W.Sink.wants c.args.sink.now) (g.W.Sink.wants c.start.new.sink) in
    let new : IsNewWriter c.args.reader.now.metadata c.args.encoding c.in_ok-writer.writer = subst (λ f. IsNewWriter f c.args.encoding c.in_ok-writer.writer) c.metadata.ensures c.in_ok-writer.ensures.new in
    let start = subst (λ s. Starts (text_of c.in_ok-writer.writer.encoding) m (Ok tt) c.in_ok-writer.writer c.start.new.self s None) (c.deref-2.ensures ∙ c.schema-2.ensures) c.in_ok-start.ensures.starts in
    has_begun b c.args.reader.now c.args.encoding c.in_ok-writer.writer c.start.new.self m c.requires.unread file new _ refl refl refl
    (writer_so c.args.reader.now c.args.encoding c.in_ok-writer.writer c.start.new.self m c.requires.unread new (subst (λ s. plain_fields (fields_in s) ≡ fields_in s) (c.deref.ensures ∙ c.schema.ensures) c.types_have_no_ids.ensures) start) start
