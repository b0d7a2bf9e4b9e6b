use Rattle.std.proofs.Common.{◌≡◌, Some, Ok, Err, refl, subst}
use Rattle.ipc_reader.proofs.Below.{is_err}
use Rattle.ipc_reader.specs.Reads.{NextBatch}
use Rattle.ipc_transcode.proofs.Calls.{next_fetches_so, next_none_so, next_not_written, next_refused_so, next_written, write_cause}
use Rattle.ipc_transcode.proofs.send.send_next.Goals as goal

pub returns-in_err-batch-in-Some-clause-sends : goal.returns-in_err-batch-in-Some-clause-sends
returns-in_err-batch-in-Some-clause-sends g c =
    let e : c.from_residual.result ≡ Err c.in_err-batch-in-Some.field-0.0 = is_err _ _ _ c.from_residual.ensures.0 c.from_residual.ensures.1 (λ f h. h) in
    let here : NextBatch g.S.Source.content g.S.Source.faults g.S.Source.fetched g.S.Source.references c.args.source.now c.next.new.source c.args.reader.now c.next.new.self (Some (Err c.in_err-batch-in-Some.field-0.0)) = subst (λ r. NextBatch g.S.Source.content g.S.Source.faults g.S.Source.fetched g.S.Source.references c.args.source.now c.next.new.source c.args.reader.now c.next.new.self (Some r)) c.in_err-batch-in-Some.was c.in-Some.ensures in
    next_refused_so g.S.Source.content g.S.Source.faults g.S.Source.fetched g.S.Source.references c.args.source.now c.next.new.source c.args.reader.now c.next.new.self c.args.writer.now (g.W.Sink.written c.args.sink.now) c.requires.writer c.from_residual.result c.in_err-batch-in-Some.field-0.0 (g.W.Sink.wants c.args.sink.now) (g.W.Sink.wants c.args.sink.now) e here

pub returns-in-None-clause-sends : goal.returns-in-None-clause-sends
returns-in-None-clause-sends g c = next_none_so g.S.Source.content g.S.Source.faults g.S.Source.fetched g.S.Source.references c.args.source.now c.next.new.source c.args.reader.now c.next.new.self c.args.writer.now (g.W.Sink.written c.args.sink.now) c.requires.writer (g.W.Sink.wants c.args.sink.now) (g.W.Sink.wants c.args.sink.now) c.in-None.ensures

pub returns-in_err-batch-in-Some-clause-fetched : goal.returns-in_err-batch-in-Some-clause-fetched
returns-in_err-batch-in-Some-clause-fetched g c = next_fetches_so g.S.Source.content g.S.Source.faults g.S.Source.fetched g.S.Source.references c.args.source.now c.next.new.source c.args.reader.now c.next.new.self c.args.writer.now (g.W.Sink.written c.args.sink.now) c.next.result c.next.ensures

pub returns-in-None-clause-fetched : goal.returns-in-None-clause-fetched
returns-in-None-clause-fetched g c = next_fetches_so g.S.Source.content g.S.Source.faults g.S.Source.fetched g.S.Source.references c.args.source.now c.next.new.source c.args.reader.now c.next.new.self c.args.writer.now (g.W.Sink.written c.args.sink.now) c.next.result c.next.ensures

pub returns-in_err-write-in-Some-clause-fetched : goal.returns-in_err-write-in-Some-clause-fetched
returns-in_err-write-in-Some-clause-fetched g c = next_fetches_so g.S.Source.content g.S.Source.faults g.S.Source.fetched g.S.Source.references c.args.source.now c.next.new.source c.args.reader.now c.next.new.self c.args.writer.now (g.W.Sink.written c.args.sink.now) c.next.result c.next.ensures

pub returns-in_ok-write-in-Some-clause-fetched : goal.returns-in_ok-write-in-Some-clause-fetched
returns-in_ok-write-in-Some-clause-fetched g c = next_fetches_so g.S.Source.content g.S.Source.faults g.S.Source.fetched g.S.Source.references c.args.source.now c.next.new.source c.args.reader.now c.next.new.self c.args.writer.now (g.W.Sink.written c.args.sink.now) c.next.result c.next.ensures

pub returns-in_ok-write-in-Some-clause-sends : goal.returns-in_ok-write-in-Some-clause-sends
returns-in_ok-write-in-Some-clause-sends g c =
    let here : NextBatch g.S.Source.content g.S.Source.faults g.S.Source.fetched g.S.Source.references c.args.source.now c.next.new.source c.args.reader.now c.next.new.self (Some (Ok c.in_ok-batch-in-Some.batch)) = subst (λ r. NextBatch g.S.Source.content g.S.Source.faults g.S.Source.fetched g.S.Source.references c.args.source.now c.next.new.source c.args.reader.now c.next.new.self (Some r)) c.in_ok-batch-in-Some.was c.in-Some.ensures in
    next_written g.S.Source.content g.S.Source.faults g.S.Source.fetched g.S.Source.references c.args.source.now c.next.new.source c.args.reader.now c.next.new.self c.args.writer.now (g.W.Sink.written c.args.sink.now) c.requires.writer c.in_ok-batch-in-Some.batch _ refl here c.height-rows.ensures.sound c.height-rows.result _ (g.W.Sink.wants c.args.sink.now) (g.W.Sink.wants c.write.new.sink) c.height-rows.ensures.rows c.in_ok-write-in-Some.ensures.writes

pub returns-in_err-write-in-Some-clause-sends : goal.returns-in_err-write-in-Some-clause-sends
returns-in_err-write-in-Some-clause-sends g c =
    let e : c.from_residual-in_err-write-in-Some.result ≡ Err c.in_err-write-in-Some.field-0.0 = is_err _ _ _ c.from_residual-in_err-write-in-Some.ensures.0 c.from_residual-in_err-write-in-Some.ensures.1 (λ f h. h) in
    let here : NextBatch g.S.Source.content g.S.Source.faults g.S.Source.fetched g.S.Source.references c.args.source.now c.next.new.source c.args.reader.now c.next.new.self (Some (Ok c.in_ok-batch-in-Some.batch)) = subst (λ r. NextBatch g.S.Source.content g.S.Source.faults g.S.Source.fetched g.S.Source.references c.args.source.now c.next.new.source c.args.reader.now c.next.new.self (Some r)) c.in_ok-batch-in-Some.was c.in-Some.ensures in
    next_not_written g.S.Source.content g.S.Source.faults g.S.Source.fetched g.S.Source.references c.args.source.now c.next.new.source c.args.reader.now c.next.new.self c.args.writer.now (g.W.Sink.written c.args.sink.now) c.requires.writer c.in_ok-batch-in-Some.batch _ refl here c.height-rows.ensures.sound _ c.in_err-write-in-Some.field-0.0 _ e c.in_err-write-in-Some.ensures.writes

pub returns-in_err-write-in-Some-clause-cause : goal.returns-in_err-write-in-Some-clause-cause
returns-in_err-write-in-Some-clause-cause g c =
    let e : c.from_residual-in_err-write-in-Some.result ≡ Err c.in_err-write-in-Some.field-0.0 = is_err _ _ _ c.from_residual-in_err-write-in-Some.ensures.0 c.from_residual-in_err-write-in-Some.ensures.1 (λ f h. h) in
    let here : NextBatch g.S.Source.content g.S.Source.faults g.S.Source.fetched g.S.Source.references c.args.source.now c.next.new.source c.args.reader.now c.next.new.self (Some (Ok c.in_ok-batch-in-Some.batch)) = subst (λ r. NextBatch g.S.Source.content g.S.Source.faults g.S.Source.fetched g.S.Source.references c.args.source.now c.next.new.source c.args.reader.now c.next.new.self (Some r)) c.in_ok-batch-in-Some.was c.in-Some.ensures in
    write_cause g.S.Source.content g.S.Source.faults g.S.Source.fetched g.S.Source.references c.args.source.now c.next.new.source c.args.reader.now c.next.new.self c.args.writer.now (g.W.Sink.written c.args.sink.now) c.requires.writer c.in_ok-batch-in-Some.batch _ refl here c.height-rows.ensures.sound _ c.in_err-write-in-Some.field-0.0 _ _ _ e c.requires.reader c.in_err-write-in-Some.ensures.writes
