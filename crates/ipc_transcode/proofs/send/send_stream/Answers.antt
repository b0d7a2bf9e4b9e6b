use Rattle.std.proofs.Common.{◌≡◌, ◌≤◌, Err, refl, arith}
use Rattle.ipc_bodies.specs.Puts.{moved}
use Rattle.ipc_reader.proofs.Below.{is_err}
use Rattle.ipc_transcode.proofs.Streams.{batches_refused, begin_refused, end_refused, stream_sent}
use Rattle.ipc_transcode.proofs.FetchedCalls.{stream_fetched}
use Rattle.ipc_transcode.proofs.send.send_stream.Goals as goal

pub returns-in_err-summary-clause-sends : goal.returns-in_err-summary-clause-sends
returns-in_err-summary-clause-sends g c =
    let e : c.from_residual-in_err-summary.result ≡ Err c.in_err-summary.field-0.0 = is_err _ _ _ c.from_residual-in_err-summary.ensures.0 c.from_residual-in_err-summary.ensures.1 (λ f h. h) in
    batches_refused c.args.reader.now c.in_ok-writer.writer c.args.encoding (g.W.Sink.written c.args.sink.now) (g.W.Sink.written c.begin_stream.new.sink) c.in_ok-writer.ensures.writer.encoding c.in_ok-writer.ensures.begins
    (g.S.Source.content c.args.source.now) c.from_residual-in_err-summary.result c.in_err-summary.field-0.0 c.send_batches.new.reader c.send_batches.new.writer (g.W.Sink.written c.send_batches.new.sink) (g.W.Sink.wants c.args.sink.now) (g.W.Sink.wants c.begin_stream.new.sink) (g.W.Sink.wants c.send_batches.new.sink)
    e c.begin_stream.ensures.sink.wants c.in_err-summary.ensures.sends

pub returns-in_err-finish-clause-sends : goal.returns-in_err-finish-clause-sends
returns-in_err-finish-clause-sends g c =
    let e : c.from_residual-in_err-finish.result ≡ Err c.in_err-finish.field-0.0 = is_err _ _ _ c.from_residual-in_err-finish.ensures.0 c.from_residual-in_err-finish.ensures.1 (λ f h. h) in
    let before : g.W.Sink.wants c.args.sink.now ≤ g.W.Sink.wants c.send_batches.new.sink = omega (arith, c.begin_stream.ensures.sink.wants, c.in_ok-summary.ensures.sink.wants) in
    end_refused c.args.reader.now c.in_ok-writer.writer c.args.encoding (g.W.Sink.written c.args.sink.now) (g.W.Sink.written c.begin_stream.new.sink) c.in_ok-writer.ensures.writer.encoding c.in_ok-writer.ensures.begins
    (g.S.Source.content c.args.source.now) c.in_ok-summary.summary c.send_batches.new.reader c.send_batches.new.writer c.finish.new.self (moved (g.W.Sink.written c.send_batches.new.sink) (g.W.Sink.written c.finish.new.sink) (g.W.Sink.faults c.send_batches.new.sink) (g.W.Sink.faults c.finish.new.sink) (g.W.Sink.wants c.send_batches.new.sink) (g.W.Sink.wants c.finish.new.sink)) (g.W.Sink.wants c.begin_stream.new.sink)
    c.in_ok-summary.ensures.sends c.in_ok-summary.ensures.metadata c.in_ok-summary.ensures.writer c.from_residual-in_err-finish.result c.in_err-finish.field-0.0 (g.W.Sink.wants c.args.sink.now) c.in_ok-summary.ensures.projection before c.in_err-finish.ensures.finishes e

pub returns-clause-sends : goal.returns-clause-sends
returns-clause-sends g c =
    stream_sent c.args.reader.now c.in_ok-writer.writer c.args.encoding (g.W.Sink.written c.args.sink.now) (g.W.Sink.written c.begin_stream.new.sink) c.in_ok-writer.ensures.writer.encoding c.in_ok-writer.ensures.begins
    (g.S.Source.content c.args.source.now) c.in_ok-summary.summary c.send_batches.new.reader c.send_batches.new.writer c.finish.new.self (moved (g.W.Sink.written c.send_batches.new.sink) (g.W.Sink.written c.finish.new.sink) (g.W.Sink.faults c.send_batches.new.sink) (g.W.Sink.faults c.finish.new.sink) (g.W.Sink.wants c.send_batches.new.sink) (g.W.Sink.wants c.finish.new.sink)) (g.W.Sink.wants c.begin_stream.new.sink)
    c.in_ok-summary.ensures.sends c.in_ok-summary.ensures.metadata c.in_ok-summary.ensures.writer _ _ (g.W.Sink.wants c.args.sink.now) (g.W.Sink.wants c.finish.new.sink) c.in_ok-summary.ensures.projection c.in_ok-summary.ensures.few c.in_ok-finish.ensures.finishes
    refl refl c.byte_count.ensures refl

pub returns-in_err-summary-clause-fetched : goal.returns-in_err-summary-clause-fetched
returns-in_err-summary-clause-fetched g c = stream_fetched (g.S.Source.content c.args.source.now) c.args.reader.now c.in_ok-writer.writer c.args.encoding (g.W.Sink.written c.args.sink.now) (g.W.Sink.written c.begin_stream.new.sink) c.send_batches.new.reader.block (g.S.Source.fetched c.args.source.now) (g.S.Source.fetched c.send_batches.new.source) c.in_ok-writer.ensures.writer.encoding c.in_ok-writer.ensures.begins c.send_batches.ensures.fetched

pub returns-in_err-finish-clause-fetched : goal.returns-in_err-finish-clause-fetched
returns-in_err-finish-clause-fetched g c = stream_fetched (g.S.Source.content c.args.source.now) c.args.reader.now c.in_ok-writer.writer c.args.encoding (g.W.Sink.written c.args.sink.now) (g.W.Sink.written c.begin_stream.new.sink) c.send_batches.new.reader.block (g.S.Source.fetched c.args.source.now) (g.S.Source.fetched c.send_batches.new.source) c.in_ok-writer.ensures.writer.encoding c.in_ok-writer.ensures.begins c.send_batches.ensures.fetched

pub returns-clause-fetched : goal.returns-clause-fetched
returns-clause-fetched g c = stream_fetched (g.S.Source.content c.args.source.now) c.args.reader.now c.in_ok-writer.writer c.args.encoding (g.W.Sink.written c.args.sink.now) (g.W.Sink.written c.begin_stream.new.sink) c.send_batches.new.reader.block (g.S.Source.fetched c.args.source.now) (g.S.Source.fetched c.send_batches.new.source) c.in_ok-writer.ensures.writer.encoding c.in_ok-writer.ensures.begins c.send_batches.ensures.fetched

pub returns-in_err-writer-clause-sends : goal.returns-in_err-writer-clause-sends
returns-in_err-writer-clause-sends g c =
    let e : c.from_residual.result ≡ Err c.in_err-writer.field-0.0 = is_err _ _ _ c.from_residual.ensures.0 c.from_residual.ensures.1 (λ f h. h) in
    begin_refused (g.S.Source.content c.args.source.now) c.args.reader.now c.args.encoding (g.W.Sink.written c.args.sink.now) c.from_residual.result c.in_err-writer.field-0.0 (g.W.Sink.written c.begin_stream.new.sink) (g.W.Sink.wants c.args.sink.now) (g.W.Sink.wants c.begin_stream.new.sink) e c.in_err-writer.ensures.begins
