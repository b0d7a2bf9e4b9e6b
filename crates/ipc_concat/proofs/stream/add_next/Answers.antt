use Rattle.std.proofs.Common.{◌≡◌, Some, Ok, Err, refl, subst}
use Rattle.ipc_bodies.specs.Encodings.{text_of}
use Rattle.ipc_bodies.specs.Puts.{moved}
use Rattle.laws_walk.proofs.Below.{is_err}
use Rattle.laws_walk.specs.Below.{NextBatch}
use Rattle.ipc_concat.proofs.Adding.{next_cause, next_done, next_none, next_refused, read_fails}
use Rattle.ipc_concat.proofs.Writing.{still_going, writes_keep, writes_stay}
use Rattle.ipc_concat.proofs.stream.add_next.Goals as goal

pub returns-in_err-batch-in-Some-clause-adds : goal.returns-in_err-batch-in-Some-clause-adds
returns-in_err-batch-in-Some-clause-adds g c =
    let e : c.from_residual.result ≡ Err c.in_err-batch-in-Some.field-0.0 = is_err _ _ _ c.from_residual.ensures.0 c.from_residual.ensures.1 (λ f h. h) in
    let here : NextBatch g.S.Source.content g.S.Source.faults g.S.Source.fetched g.S.Source.references c.args.source.now c.next.new.source c.args.reader.now c.next.new.self (Some (Err c.in_err-batch-in-Some.field-0.0)) = subst (λ r. NextBatch g.S.Source.content g.S.Source.faults g.S.Source.fetched g.S.Source.references c.args.source.now c.next.new.source c.args.reader.now c.next.new.self (Some r)) c.in_err-batch-in-Some.was c.in-Some.ensures in
    next_refused g.S.Source.content g.S.Source.faults g.S.Source.fetched g.S.Source.references c.args.source.now c.next.new.source c.args.reader.now c.next.new.self c.args.stream.now (g.W.Sink.written c.args.sink.now) c.in_err-batch-in-Some.field-0.0 c.from_residual.result c.args.stream.now _ _ e here

pub returns-in_err-batch-in-Some-clause-cause : goal.returns-in_err-batch-in-Some-clause-cause
returns-in_err-batch-in-Some-clause-cause g c =
    let e : c.from_residual.result ≡ Err c.in_err-batch-in-Some.field-0.0 = is_err _ _ _ c.from_residual.ensures.0 c.from_residual.ensures.1 (λ f h. h) in
    let here : NextBatch g.S.Source.content g.S.Source.faults g.S.Source.fetched g.S.Source.references c.args.source.now c.next.new.source c.args.reader.now c.next.new.self (Some (Err c.in_err-batch-in-Some.field-0.0)) = subst (λ r. NextBatch g.S.Source.content g.S.Source.faults g.S.Source.fetched g.S.Source.references c.args.source.now c.next.new.source c.args.reader.now c.next.new.self (Some r)) c.in_err-batch-in-Some.was c.in-Some.ensures in
    read_fails c.from_residual.result c.in_err-batch-in-Some.field-0.0 _ _ _ e here.cause

pub returns-in-None-clause-adds : goal.returns-in-None-clause-adds
returns-in-None-clause-adds g c = next_none g.S.Source.content g.S.Source.faults g.S.Source.fetched g.S.Source.references c.args.source.now c.next.new.source c.args.reader.now c.next.new.self c.args.stream.now (g.W.Sink.written c.args.sink.now) 0 0 c.in-None.ensures

pub returns-in_ok-batch-in-Some-clause-adds : goal.returns-in_ok-batch-in-Some-clause-adds
returns-in_ok-batch-in-Some-clause-adds g c =
    let m = moved (g.W.Sink.written c.args.sink.now) (g.W.Sink.written c.write.new.sink) (g.W.Sink.faults c.args.sink.now) (g.W.Sink.faults c.write.new.sink) (g.W.Sink.wants c.args.sink.now) (g.W.Sink.wants c.write.new.sink) in
    let here : NextBatch g.S.Source.content g.S.Source.faults g.S.Source.fetched g.S.Source.references c.args.source.now c.next.new.source c.args.reader.now c.next.new.self (Some (Ok c.in_ok-batch-in-Some.batch)) = subst (λ r. NextBatch g.S.Source.content g.S.Source.faults g.S.Source.fetched g.S.Source.references c.args.source.now c.next.new.source c.args.reader.now c.next.new.self (Some r)) c.in_ok-batch-in-Some.was c.in-Some.ensures in
    next_done g.S.Source.content g.S.Source.faults g.S.Source.fetched g.S.Source.references c.args.source.now c.next.new.source c.args.reader.now c.next.new.self c.args.stream.now (g.W.Sink.written c.args.sink.now) c.in_ok-batch-in-Some.batch c.write.new.self m here c.requires.reader c.requires.going c.write.ensures.sound refl c.write.result c.write.ensures.writes c.write.ensures.batches c.write.ensures.rows

pub returns-in_ok-batch-in-Some-clause-cause : goal.returns-in_ok-batch-in-Some-clause-cause
returns-in_ok-batch-in-Some-clause-cause g c =
    let m = moved (g.W.Sink.written c.args.sink.now) (g.W.Sink.written c.write.new.sink) (g.W.Sink.faults c.args.sink.now) (g.W.Sink.faults c.write.new.sink) (g.W.Sink.wants c.args.sink.now) (g.W.Sink.wants c.write.new.sink) in
    let here : NextBatch g.S.Source.content g.S.Source.faults g.S.Source.fetched g.S.Source.references c.args.source.now c.next.new.source c.args.reader.now c.next.new.self (Some (Ok c.in_ok-batch-in-Some.batch)) = subst (λ r. NextBatch g.S.Source.content g.S.Source.faults g.S.Source.fetched g.S.Source.references c.args.source.now c.next.new.source c.args.reader.now c.next.new.self (Some r)) c.in_ok-batch-in-Some.was c.in-Some.ensures in
    next_cause g.S.Source.content g.S.Source.faults g.S.Source.fetched g.S.Source.references c.args.source.now c.next.new.source c.args.reader.now c.next.new.self c.args.stream.now (g.W.Sink.written c.args.sink.now) c.in_ok-batch-in-Some.batch c.write.new.self m here c.requires.reader c.requires.going c.write.ensures.sound refl c.write.result _ c.write.ensures.writes

pub returns-in_ok-batch-in-Some-clause-going : goal.returns-in_ok-batch-in-Some-clause-going
returns-in_ok-batch-in-Some-clause-going g c =
    let m = moved (g.W.Sink.written c.args.sink.now) (g.W.Sink.written c.write.new.sink) (g.W.Sink.faults c.args.sink.now) (g.W.Sink.faults c.write.new.sink) (g.W.Sink.wants c.args.sink.now) (g.W.Sink.wants c.write.new.sink) in
    still_going (text_of c.args.stream.now.writer.encoding) m c.write.result c.args.stream.now c.write.new.self c.in_ok-batch-in-Some.batch c.requires.going c.write.ensures.writes

pub returns-in_ok-batch-in-Some-clause-schema : goal.returns-in_ok-batch-in-Some-clause-schema
returns-in_ok-batch-in-Some-clause-schema g c =
    let m = moved (g.W.Sink.written c.args.sink.now) (g.W.Sink.written c.write.new.sink) (g.W.Sink.faults c.args.sink.now) (g.W.Sink.faults c.write.new.sink) (g.W.Sink.wants c.args.sink.now) (g.W.Sink.wants c.write.new.sink) in
    (writes_stay (text_of c.args.stream.now.writer.encoding) m c.write.result c.args.stream.now.writer c.write.new.self.writer c.in_ok-batch-in-Some.batch c.write.ensures.writes).schema

pub returns-in_ok-batch-in-Some-clause-encoding : goal.returns-in_ok-batch-in-Some-clause-encoding
returns-in_ok-batch-in-Some-clause-encoding g c =
    let m = moved (g.W.Sink.written c.args.sink.now) (g.W.Sink.written c.write.new.sink) (g.W.Sink.faults c.args.sink.now) (g.W.Sink.faults c.write.new.sink) (g.W.Sink.wants c.args.sink.now) (g.W.Sink.wants c.write.new.sink) in
    (writes_stay (text_of c.args.stream.now.writer.encoding) m c.write.result c.args.stream.now.writer c.write.new.self.writer c.in_ok-batch-in-Some.batch c.write.ensures.writes).encoding

pub returns-in_ok-batch-in-Some-clause-sink : goal.returns-in_ok-batch-in-Some-clause-sink
returns-in_ok-batch-in-Some-clause-sink g c =
    let m = moved (g.W.Sink.written c.args.sink.now) (g.W.Sink.written c.write.new.sink) (g.W.Sink.faults c.args.sink.now) (g.W.Sink.faults c.write.new.sink) (g.W.Sink.wants c.args.sink.now) (g.W.Sink.wants c.write.new.sink) in
    let falls = writes_keep (text_of c.args.stream.now.writer.encoding) m c.write.result c.args.stream.now.writer c.write.new.self.writer c.in_ok-batch-in-Some.batch c.write.ensures.writes in
    record { faults = falls.faults; wants = falls.wants; references = c.write.ensures.same_references }
