use Rattle.std.proofs.Common.{◌≡◌, Some, Ok, Err, IfErr, sym, subst}
use Rattle.laws_walk.proofs.Below.{is_err}
use Rattle.laws_walk.specs.Below.{NextBatch}
use Rattle.ipc_csv.specs.Printing.{CallCause}
use Rattle.ipc_csv.proofs.Nexts.{next_fetches, next_none, next_not_printed, next_printed, next_refused}
use Rattle.ipc_csv.proofs.Refusals.{put_cause, read_cause}
use Rattle.ipc_csv.proofs.print.print_next.Goals as goal

pub returns-in-None-clause-prints : goal.returns-in-None-clause-prints
returns-in-None-clause-prints g c = next_none g.S.Source.content g.S.Source.faults g.S.Source.fetched g.S.Source.references c.args.source.now c.next.new.source c.args.reader.now c.next.new.self c.args.out.now (g.W.Sink.written c.args.sink.now) c.in-None.ensures

pub returns-in_err-batch-in-Some-clause-prints : goal.returns-in_err-batch-in-Some-clause-prints
returns-in_err-batch-in-Some-clause-prints g c =
    let e : c.from_residual.result ≡ Err c.in_err-batch-in-Some.field-0.0 = is_err _ _ _ c.from_residual.ensures.0 c.from_residual.ensures.1 (λ f h. h) in
    let here : NextBatch g.S.Source.content g.S.Source.faults g.S.Source.fetched g.S.Source.references c.args.source.now c.next.new.source c.args.reader.now c.next.new.self (Some (Err c.in_err-batch-in-Some.field-0.0)) = subst (λ r. NextBatch g.S.Source.content g.S.Source.faults g.S.Source.fetched g.S.Source.references c.args.source.now c.next.new.source c.args.reader.now c.next.new.self (Some r)) c.in_err-batch-in-Some.was c.in-Some.ensures in
    next_refused g.S.Source.content g.S.Source.faults g.S.Source.fetched g.S.Source.references c.args.source.now c.next.new.source c.args.reader.now c.next.new.self c.args.out.now (g.W.Sink.written c.args.sink.now) c.from_residual.result c.in_err-batch-in-Some.field-0.0 e here

pub returns-in_err-batch-in-Some-clause-cause : goal.returns-in_err-batch-in-Some-clause-cause
returns-in_err-batch-in-Some-clause-cause g c =
    let e : c.from_residual.result ≡ Err c.in_err-batch-in-Some.field-0.0 = is_err _ _ _ c.from_residual.ensures.0 c.from_residual.ensures.1 (λ f h. h) in
    let here : NextBatch g.S.Source.content g.S.Source.faults g.S.Source.fetched g.S.Source.references c.args.source.now c.next.new.source c.args.reader.now c.next.new.self (Some (Err c.in_err-batch-in-Some.field-0.0)) = subst (λ r. NextBatch g.S.Source.content g.S.Source.faults g.S.Source.fetched g.S.Source.references c.args.source.now c.next.new.source c.args.reader.now c.next.new.self (Some r)) c.in_err-batch-in-Some.was c.in-Some.ensures in
    subst (λ z. IfErr z (λ e. CallCause e (g.S.Source.faults c.args.source.now) (g.S.Source.faults c.next.new.source) (g.W.Sink.faults c.args.sink.now) (g.W.Sink.faults c.args.sink.now))) (sym e) (read_cause c.in_err-batch-in-Some.field-0.0 _ _ _ _ here.cause)

pub returns-in_ok-put_batch-in-Some-clause-prints : goal.returns-in_ok-put_batch-in-Some-clause-prints
returns-in_ok-put_batch-in-Some-clause-prints g c =
    let here : NextBatch g.S.Source.content g.S.Source.faults g.S.Source.fetched g.S.Source.references c.args.source.now c.next.new.source c.args.reader.now c.next.new.self (Some (Ok c.in_ok-batch-in-Some.batch)) = subst (λ r. NextBatch g.S.Source.content g.S.Source.faults g.S.Source.fetched g.S.Source.references c.args.source.now c.next.new.source c.args.reader.now c.next.new.self (Some r)) c.in_ok-batch-in-Some.was c.in-Some.ensures in
    next_printed g.S.Source.content g.S.Source.faults g.S.Source.fetched g.S.Source.references c.args.source.now c.next.new.source c.args.reader.now c.next.new.self c.args.out.now (g.W.Sink.written c.args.sink.now) c.in_ok-batch-in-Some.batch c.height-rows.result c.put_batch.new.self (g.W.Sink.written c.put_batch.new.sink) c.height-rows.ensures.rows here c.in_ok-put_batch-in-Some.ensures.puts

pub returns-in_err-put_batch-in-Some-clause-prints : goal.returns-in_err-put_batch-in-Some-clause-prints
returns-in_err-put_batch-in-Some-clause-prints g c =
    let e : c.from_residual-in_err-put_batch-in-Some.result ≡ Err c.in_err-put_batch-in-Some.field-0.0 = is_err _ _ _ c.from_residual-in_err-put_batch-in-Some.ensures.0 c.from_residual-in_err-put_batch-in-Some.ensures.1 (λ f h. h) in
    let here : NextBatch g.S.Source.content g.S.Source.faults g.S.Source.fetched g.S.Source.references c.args.source.now c.next.new.source c.args.reader.now c.next.new.self (Some (Ok c.in_ok-batch-in-Some.batch)) = subst (λ r. NextBatch g.S.Source.content g.S.Source.faults g.S.Source.fetched g.S.Source.references c.args.source.now c.next.new.source c.args.reader.now c.next.new.self (Some r)) c.in_ok-batch-in-Some.was c.in-Some.ensures in
    next_not_printed g.S.Source.content g.S.Source.faults g.S.Source.fetched g.S.Source.references c.args.source.now c.next.new.source c.args.reader.now c.next.new.self c.args.out.now (g.W.Sink.written c.args.sink.now) c.in_ok-batch-in-Some.batch _ c.in_err-put_batch-in-Some.field-0.0 c.put_batch.new.self (g.W.Sink.written c.put_batch.new.sink) _ _ e here c.in_err-put_batch-in-Some.ensures.cause c.in_err-put_batch-in-Some.ensures.puts

pub returns-in_err-put_batch-in-Some-clause-cause : goal.returns-in_err-put_batch-in-Some-clause-cause
returns-in_err-put_batch-in-Some-clause-cause g c =
    let e : c.from_residual-in_err-put_batch-in-Some.result ≡ Err c.in_err-put_batch-in-Some.field-0.0 = is_err _ _ _ c.from_residual-in_err-put_batch-in-Some.ensures.0 c.from_residual-in_err-put_batch-in-Some.ensures.1 (λ f h. h) in
    subst (λ z. IfErr z (λ e. CallCause e (g.S.Source.faults c.args.source.now) (g.S.Source.faults c.next.new.source) (g.W.Sink.faults c.args.sink.now) (g.W.Sink.faults c.put_batch.new.sink))) (sym e) (put_cause c.in_err-put_batch-in-Some.field-0.0 _ _ _ _ c.in_err-put_batch-in-Some.ensures.cause)

pub returns-in-None-clause-fetched : goal.returns-in-None-clause-fetched
returns-in-None-clause-fetched g c = next_fetches g.S.Source.content g.S.Source.faults g.S.Source.fetched g.S.Source.references c.args.source.now c.next.new.source c.args.reader.now c.next.new.self c.args.out.now (g.W.Sink.written c.args.sink.now) c.next.result c.next.ensures

pub returns-in_err-batch-in-Some-clause-fetched : goal.returns-in_err-batch-in-Some-clause-fetched
returns-in_err-batch-in-Some-clause-fetched g c = next_fetches g.S.Source.content g.S.Source.faults g.S.Source.fetched g.S.Source.references c.args.source.now c.next.new.source c.args.reader.now c.next.new.self c.args.out.now (g.W.Sink.written c.args.sink.now) c.next.result c.next.ensures

pub returns-in_err-put_batch-in-Some-clause-fetched : goal.returns-in_err-put_batch-in-Some-clause-fetched
returns-in_err-put_batch-in-Some-clause-fetched g c = next_fetches g.S.Source.content g.S.Source.faults g.S.Source.fetched g.S.Source.references c.args.source.now c.next.new.source c.args.reader.now c.next.new.self c.args.out.now (g.W.Sink.written c.args.sink.now) c.next.result c.next.ensures

pub returns-in_ok-put_batch-in-Some-clause-fetched : goal.returns-in_ok-put_batch-in-Some-clause-fetched
returns-in_ok-put_batch-in-Some-clause-fetched g c = next_fetches g.S.Source.content g.S.Source.faults g.S.Source.fetched g.S.Source.references c.args.source.now c.next.new.source c.args.reader.now c.next.new.self c.args.out.now (g.W.Sink.written c.args.sink.now) c.next.result c.next.ensures
