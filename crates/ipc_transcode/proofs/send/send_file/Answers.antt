use Rattle.std.proofs.Common.{◌≡◌, Ok, Err, length, refl, sym, subst}
use Rattle.laws_walk.specs.Below.{columns_of}
use Rattle.ipc_reader.specs.Below.{asked, MayProject}
use Rattle.ipc_reader.proofs.Below.{is_err, file_width, right_of_file}
use Rattle.arrow_spec.specs.Files.{columns_right}
use Rattle.std.specs.Rc.{rc_value}
use Rattle.ipc_transcode.proofs.Asks.{columns_not_right, numbers_cause, wrong_as}
use Rattle.ipc_transcode.proofs.FetchedCalls.{file_fetched}
use Rattle.laws_walk.proofs.FetchedFiles.{file_by_footer}
use Rattle.ipc_transcode.proofs.Readers.{reader_of}
use Rattle.ipc_transcode.proofs.Streams.{file_sent}
use Rattle.ipc_transcode.proofs.send.send_file.Goals as goal

pub returns-in_err-reader-clause-sends : goal.returns-in_err-reader-clause-sends
returns-in_err-reader-clause-sends g c =
    let e : c.from_residual-in_err-reader.result ≡ Err c.in_err-reader.field-0.0 = is_err _ _ _ c.from_residual-in_err-reader.ensures.0 c.from_residual-in_err-reader.ensures.1 (λ f h. h) in
    columns_not_right c.from_residual-in_err-reader.result c.in_err-reader.field-0.0 (g.S.Source.content c.args.source.now) c.in_ok-file.file (asked (columns_of c.args.columns) c.args.limit) (length (rc_value c.in_ok-file.file.schema)) c.args.encoding (g.W.Sink.written c.args.sink.now) (g.W.Sink.wants c.args.sink.now) (g.W.Sink.wants c.args.sink.now)
    e (sym (file_width c.in_ok-file.file)) (wrong_as c.in_err-reader.field-0.0 (length (rc_value c.in_ok-file.file.schema)) _ _ c.in_ok-columns.ensures.same c.in_err-reader.ensures.err) c.in_ok-file.ensures.says

pub returns-in_err-reader-clause-cause : goal.returns-in_err-reader-clause-cause
returns-in_err-reader-clause-cause g c =
    let e : c.from_residual-in_err-reader.result ≡ Err c.in_err-reader.field-0.0 = is_err _ _ _ c.from_residual-in_err-reader.ensures.0 c.from_residual-in_err-reader.ensures.1 (λ f h. h) in
    numbers_cause c.from_residual-in_err-reader.result c.in_err-reader.field-0.0 _ _ _ _ _ _ e c.in_err-reader.ensures.err

pub returns-clause-sends : goal.returns-clause-sends
returns-clause-sends g c =
    let file = c.in_ok-file.file in
    let same = c.in_ok-columns.ensures.same in
    file_sent (g.S.Source.content c.args.source.now) (g.S.Source.content c.read_file_metadata.new.source) file (asked (columns_of c.args.columns) c.args.limit) c.in_ok-reader.reader c.args.encoding (g.W.Sink.written c.args.sink.now) (g.W.Sink.written c.send_stream.new.sink) (g.W.Sink.wants c.args.sink.now) (g.W.Sink.wants c.send_stream.new.sink) c.send_stream.result
    c.in_ok-file.ensures.kept.content c.in_ok-file.ensures.says c.in_ok-file.ensures.read c.in_ok-reader.ensures.metadata
    (subst (λ cs. MayProject (rc_value file.schema) cs c.in_ok-reader.reader.projection) same c.in_ok-reader.ensures.projected)
    (right_of_file file (columns_of c.args.columns) (rc_value file.schema) refl (subst (λ cs. columns_right cs (length (rc_value file.schema)) ≡ Ok tt) same c.in_ok-reader.ensures.right))
    c.in_ok-reader.ensures.block c.in_ok-reader.ensures.dictionaries c.in_ok-reader.ensures.left c.send_stream.ensures.sends

pub returns-in_err-file-clause-fetched : goal.returns-in_err-file-clause-fetched
returns-in_err-file-clause-fetched g c = file_by_footer (g.S.Source.content c.args.source.now) (asked (columns_of c.args.columns) c.args.limit) _ _ c.in_err-file.ensures.fetched

pub returns-in_err-columns-clause-fetched : goal.returns-in_err-columns-clause-fetched
returns-in_err-columns-clause-fetched g c = file_by_footer (g.S.Source.content c.args.source.now) (asked (columns_of c.args.columns) c.args.limit) _ _ c.in_ok-file.ensures.fetched

pub returns-in_err-reader-clause-fetched : goal.returns-in_err-reader-clause-fetched
returns-in_err-reader-clause-fetched g c = file_by_footer (g.S.Source.content c.args.source.now) (asked (columns_of c.args.columns) c.args.limit) _ _ c.in_ok-file.ensures.fetched

pub returns-clause-fetched : goal.returns-clause-fetched
returns-clause-fetched g c =
    let file = c.in_ok-file.file in
    let same = c.in_ok-columns.ensures.same in
    file_fetched (g.S.Source.content c.args.source.now) (g.S.Source.content c.read_file_metadata.new.source) file (asked (columns_of c.args.columns) c.args.limit) c.in_ok-reader.reader c.args.encoding (g.W.Sink.written c.args.sink.now) _ _ _
    c.in_ok-file.ensures.kept.content c.in_ok-file.ensures.says c.in_ok-file.ensures.read c.in_ok-reader.ensures.metadata
    (subst (λ cs. MayProject (rc_value file.schema) cs c.in_ok-reader.reader.projection) same c.in_ok-reader.ensures.projected)
    (right_of_file file (columns_of c.args.columns) (rc_value file.schema) refl (subst (λ cs. columns_right cs (length (rc_value file.schema)) ≡ Ok tt) same c.in_ok-reader.ensures.right))
    c.in_ok-reader.ensures.block c.in_ok-reader.ensures.dictionaries c.in_ok-reader.ensures.left c.in_ok-file.ensures.fetched c.send_stream.ensures.fetched

pub send_stream-requires-clause-reader : goal.send_stream-requires-clause-reader
send_stream-requires-clause-reader g c =
    let file = c.in_ok-file.file in
    let same = c.in_ok-columns.ensures.same in
    reader_of file c.in_ok-reader.reader (columns_of c.args.columns) c.in_ok-reader.ensures.metadata
    (subst (λ cs. MayProject (rc_value file.schema) cs c.in_ok-reader.reader.projection) same c.in_ok-reader.ensures.projected)
    (right_of_file file (columns_of c.args.columns) (rc_value file.schema) refl (subst (λ cs. columns_right cs (length (rc_value file.schema)) ≡ Ok tt) same c.in_ok-reader.ensures.right))
    c.in_ok-file.ensures.read
