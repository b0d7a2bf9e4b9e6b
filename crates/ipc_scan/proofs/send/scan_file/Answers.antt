use Rattle.std.proofs.Common.{◌≡◌, Err, subst}
use Rattle.ipc_files.specs.FileViews.{meta_view}
use Rattle.ipc_files.proofs.Errors.{is_err}
use Rattle.laws_scan.specs.Scans.{scanned}
use Rattle.laws_walk.specs.Below.{columns_of}
use Rattle.ipc_scan.specs.Sends.{IsScanner, NotScanned}
use Rattle.ipc_scan.proofs.ScanCosts.{cost_by_footer}
use Rattle.ipc_scan.proofs.ScanFiles.{columns_cause, file_fetched, file_scanned, not_read, not_scanned, ready_of}
use Rattle.ipc_scan.proofs.send.scan_file.Goals as goal

pub returns-in_err-file-clause-sends : goal.returns-in_err-file-clause-sends
returns-in_err-file-clause-sends g c =
    let e : c.from_residual.result ≡ Err c.in_err-file.field-0.0 = is_err _ _ _ c.from_residual.ensures.0 c.from_residual.ensures.1 (λ f h. h) in
    not_read c.from_residual.result c.in_err-file.field-0.0 e (scanned c.args.filter (columns_of c.args.columns)) c.args.encoding (g.W.Sink.written c.args.sink.now) (g.W.Sink.wants c.args.sink.now) (g.W.Sink.wants c.args.sink.now) (g.S.Source.content c.args.source.now) _ _ c.in_err-file.ensures.cause c.in_err-file.ensures.refused

pub returns-in_err-scanner-clause-sends : goal.returns-in_err-scanner-clause-sends
returns-in_err-scanner-clause-sends g c =
    let e : c.from_residual-in_err-scanner.result ≡ Err c.in_err-scanner.field-0.0 = is_err _ _ _ c.from_residual-in_err-scanner.ensures.0 c.from_residual-in_err-scanner.ensures.1 (λ f h. h) in
    not_scanned c.from_residual-in_err-scanner.result c.in_err-scanner.field-0.0 e (scanned c.args.filter (columns_of c.args.columns)) c.args.encoding (g.W.Sink.written c.args.sink.now) (g.W.Sink.wants c.args.sink.now) (g.W.Sink.wants c.args.sink.now) (g.S.Source.content c.args.source.now) c.in_ok-file.file c.in_ok-file.ensures.says
    (subst (λ cs. NotScanned c.in_err-scanner.field-0.0 (meta_view c.in_ok-file.file).schema.fields c.args.filter cs) c.in_ok-columns.ensures.same c.in_err-scanner.ensures.err)

pub returns-in_err-scanner-clause-cause : goal.returns-in_err-scanner-clause-cause
returns-in_err-scanner-clause-cause g c =
    let e : c.from_residual-in_err-scanner.result ≡ Err c.in_err-scanner.field-0.0 = is_err _ _ _ c.from_residual-in_err-scanner.ensures.0 c.from_residual-in_err-scanner.ensures.1 (λ f h. h) in
    columns_cause c.from_residual-in_err-scanner.result c.in_err-scanner.field-0.0 (scanned c.args.filter (columns_of c.args.columns)) (meta_view c.in_ok-file.file).schema.fields _ _ _ _ e
    (subst (λ cs. NotScanned c.in_err-scanner.field-0.0 (meta_view c.in_ok-file.file).schema.fields c.args.filter cs) c.in_ok-columns.ensures.same c.in_err-scanner.ensures.err)

pub returns-clause-sends : goal.returns-clause-sends
returns-clause-sends g c =
    file_scanned (g.S.Source.content c.read_file_metadata.new.source) (g.S.Source.content c.args.source.now) c.in_ok-file.file c.in_ok-scanner.scanner c.args.filter (columns_of c.args.columns) c.args.encoding (g.W.Sink.written c.args.sink.now) c.in_ok-file.ensures.kept.content c.in_ok-file.ensures.says
    (subst (λ cs. IsScanner c.in_ok-scanner.scanner c.in_ok-file.file c.args.filter cs) c.in_ok-columns.ensures.same c.in_ok-scanner.ensures.scanner) c.scan_stream.result (g.W.Sink.written c.scan_stream.new.sink) (g.W.Sink.wants c.args.sink.now) (g.W.Sink.wants c.scan_stream.new.sink) c.scan_stream.ensures.sends

pub returns-in_err-file-clause-fetched : goal.returns-in_err-file-clause-fetched
returns-in_err-file-clause-fetched g c = cost_by_footer (g.S.Source.content c.args.source.now) (scanned c.args.filter (columns_of c.args.columns)) _ _ c.in_err-file.ensures.fetched

pub returns-in_err-columns-clause-fetched : goal.returns-in_err-columns-clause-fetched
returns-in_err-columns-clause-fetched g c = cost_by_footer (g.S.Source.content c.args.source.now) (scanned c.args.filter (columns_of c.args.columns)) _ _ c.in_ok-file.ensures.fetched

pub returns-in_err-scanner-clause-fetched : goal.returns-in_err-scanner-clause-fetched
returns-in_err-scanner-clause-fetched g c = cost_by_footer (g.S.Source.content c.args.source.now) (scanned c.args.filter (columns_of c.args.columns)) _ _ c.in_ok-file.ensures.fetched

pub returns-clause-fetched : goal.returns-clause-fetched
returns-clause-fetched g c =
    file_fetched (g.S.Source.content c.read_file_metadata.new.source) (g.S.Source.content c.args.source.now) c.in_ok-file.file c.in_ok-scanner.scanner c.args.filter (columns_of c.args.columns) c.args.encoding (g.W.Sink.written c.args.sink.now) c.in_ok-file.ensures.kept.content c.in_ok-file.ensures.says
    (subst (λ cs. IsScanner c.in_ok-scanner.scanner c.in_ok-file.file c.args.filter cs) c.in_ok-columns.ensures.same c.in_ok-scanner.ensures.scanner) _ _ _ c.in_ok-file.ensures.fetched c.scan_stream.ensures.fetched

pub scan_stream-requires-clause-scanner : goal.scan_stream-requires-clause-scanner
scan_stream-requires-clause-scanner g c = ready_of _ _ _ _ c.in_ok-scanner.ensures.scanner
