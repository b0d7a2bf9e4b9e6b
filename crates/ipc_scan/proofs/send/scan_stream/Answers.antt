use Rattle.std.proofs.Common.{◌≡◌, ◌≤◌, Err, refl, arith}
use Rattle.ipc_bodies.specs.Puts.{moved}
use Rattle.ipc_files.proofs.Errors.{is_err}
use Rattle.ipc_scan.proofs.ScanStreams.{begin_refused, blocks_fetched, blocks_refused, end_refused, none_begun, stream_sent}
use Rattle.ipc_scan.proofs.send.scan_stream.Goals as goal

pub returns-in_err-summary-clause-sends : goal.returns-in_err-summary-clause-sends
returns-in_err-summary-clause-sends g c =
    let e : c.from_residual-in_err-summary.result ≡ Err c.in_err-summary.field-0.0 = is_err _ _ _ c.from_residual-in_err-summary.ensures.0 c.from_residual-in_err-summary.ensures.1 (λ f h. h) in
    blocks_refused c.args.scanner.now c.args.encoding (g.W.Sink.written c.args.sink.now) c.in_ok-writer.writer (g.W.Sink.written c.begin_stream.new.sink) c.in_ok-writer.ensures.writer.encoding c.in_ok-writer.ensures.begins
    (g.S.Source.content c.args.source.now) c.from_residual-in_err-summary.result c.in_err-summary.field-0.0 c.scan_blocks.new.writer (g.W.Sink.written c.scan_blocks.new.sink) (g.W.Sink.wants c.args.sink.now) (g.W.Sink.wants c.begin_stream.new.sink) (g.W.Sink.wants c.scan_blocks.new.sink)
    e c.begin_stream.ensures.sink.wants c.in_err-summary.ensures.sends

pub returns-in_err-finish-clause-sends : goal.returns-in_err-finish-clause-sends
returns-in_err-finish-clause-sends g c =
    let e : c.from_residual-in_err-finish.result ≡ Err c.in_err-finish.field-0.0 = is_err _ _ _ c.from_residual-in_err-finish.ensures.0 c.from_residual-in_err-finish.ensures.1 (λ f h. h) in
    let before : g.W.Sink.wants c.args.sink.now ≤ g.W.Sink.wants c.scan_blocks.new.sink = omega (arith, c.begin_stream.ensures.sink.wants, c.in_ok-summary.ensures.sink.wants) in
    end_refused c.args.scanner.now c.args.encoding (g.W.Sink.written c.args.sink.now) c.in_ok-writer.writer (g.W.Sink.written c.begin_stream.new.sink) c.in_ok-writer.ensures.writer.encoding c.in_ok-writer.ensures.begins
    (g.S.Source.content c.args.source.now) c.in_ok-summary.summary c.scan_blocks.new.writer c.finish.new.self (moved (g.W.Sink.written c.scan_blocks.new.sink) (g.W.Sink.written c.finish.new.sink) (g.W.Sink.faults c.scan_blocks.new.sink) (g.W.Sink.faults c.finish.new.sink) (g.W.Sink.wants c.scan_blocks.new.sink) (g.W.Sink.wants c.finish.new.sink)) (g.W.Sink.wants c.begin_stream.new.sink)
    c.in_ok-summary.ensures.sends c.in_ok-summary.ensures.writer c.from_residual-in_err-finish.result c.in_err-finish.field-0.0 (g.W.Sink.wants c.args.sink.now) before c.in_err-finish.ensures.finishes e

pub returns-clause-sends : goal.returns-clause-sends
returns-clause-sends g c =
    stream_sent c.args.scanner.now c.args.encoding (g.W.Sink.written c.args.sink.now) c.in_ok-writer.writer (g.W.Sink.written c.begin_stream.new.sink) c.in_ok-writer.ensures.writer.encoding c.in_ok-writer.ensures.begins
    (g.S.Source.content c.args.source.now) c.in_ok-summary.summary c.scan_blocks.new.writer c.finish.new.self (moved (g.W.Sink.written c.scan_blocks.new.sink) (g.W.Sink.written c.finish.new.sink) (g.W.Sink.faults c.scan_blocks.new.sink) (g.W.Sink.faults c.finish.new.sink) (g.W.Sink.wants c.scan_blocks.new.sink) (g.W.Sink.wants c.finish.new.sink)) (g.W.Sink.wants c.begin_stream.new.sink)
    c.in_ok-summary.ensures.sends c.in_ok-summary.ensures.writer _ _ (g.W.Sink.wants c.args.sink.now) (g.W.Sink.wants c.finish.new.sink) c.in_ok-summary.ensures.few c.in_ok-finish.ensures.finishes
    refl refl c.byte_count.ensures refl

pub returns-in_err-writer-clause-sends : goal.returns-in_err-writer-clause-sends
returns-in_err-writer-clause-sends g c =
    let e : c.from_residual.result ≡ Err c.in_err-writer.field-0.0 = is_err _ _ _ c.from_residual.ensures.0 c.from_residual.ensures.1 (λ f h. h) in
    begin_refused c.args.scanner.now c.args.encoding (g.W.Sink.written c.args.sink.now) (g.S.Source.content c.args.source.now) c.from_residual.result c.in_err-writer.field-0.0 (g.W.Sink.written c.begin_stream.new.sink) (g.W.Sink.wants c.args.sink.now) (g.W.Sink.wants c.begin_stream.new.sink) e c.in_err-writer.ensures.begins

pub returns-in_err-writer-clause-fetched : goal.returns-in_err-writer-clause-fetched
returns-in_err-writer-clause-fetched g c = none_begun c.args.scanner.now c.args.encoding (g.W.Sink.written c.args.sink.now) (g.S.Source.content c.args.source.now) (g.S.Source.fetched c.args.source.now)

pub returns-in_err-summary-clause-fetched : goal.returns-in_err-summary-clause-fetched
returns-in_err-summary-clause-fetched g c =
    blocks_fetched c.args.scanner.now c.args.encoding (g.W.Sink.written c.args.sink.now) c.in_ok-writer.writer (g.W.Sink.written c.begin_stream.new.sink) c.in_ok-writer.ensures.writer.encoding c.in_ok-writer.ensures.begins (g.S.Source.content c.args.source.now) (g.S.Source.fetched c.args.source.now) (g.S.Source.fetched c.scan_blocks.new.source) c.scan_blocks.ensures.fetched

pub returns-in_err-finish-clause-fetched : goal.returns-in_err-finish-clause-fetched
returns-in_err-finish-clause-fetched g c =
    blocks_fetched c.args.scanner.now c.args.encoding (g.W.Sink.written c.args.sink.now) c.in_ok-writer.writer (g.W.Sink.written c.begin_stream.new.sink) c.in_ok-writer.ensures.writer.encoding c.in_ok-writer.ensures.begins (g.S.Source.content c.args.source.now) (g.S.Source.fetched c.args.source.now) (g.S.Source.fetched c.scan_blocks.new.source) c.scan_blocks.ensures.fetched

pub returns-clause-fetched : goal.returns-clause-fetched
returns-clause-fetched g c =
    blocks_fetched c.args.scanner.now c.args.encoding (g.W.Sink.written c.args.sink.now) c.in_ok-writer.writer (g.W.Sink.written c.begin_stream.new.sink) c.in_ok-writer.ensures.writer.encoding c.in_ok-writer.ensures.begins (g.S.Source.content c.args.source.now) (g.S.Source.fetched c.args.source.now) (g.S.Source.fetched c.scan_blocks.new.source) c.scan_blocks.ensures.fetched
