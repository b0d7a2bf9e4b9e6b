use Rattle.std.proofs.Common.{◌≡◌, ◌≤◌, Ok, Err, get_or, map, sym, ◌∙◌, arith}
use Rattle.laws_walk.proofs.Below.{is_err}
use Rattle.ipc_concat.proofs.AllFiles.{files_cause}
use Rattle.ipc_concat.proofs.Beginning.{going_so, schema_so}
use Rattle.ipc_concat.proofs.Joins.{all_joined, fields_so, first_unread, not_added, not_begun, putting_cause, putting_causes, some_added}
use Rattle.ipc_concat.proofs.Keeping.{kept_itself}
use Rattle.ipc_concat.proofs.OpenCalls.{get_again}
use Rattle.ipc_concat.proofs.conversion.join_files.Goals as goal

pub begin_stream-requires-clause-unread : goal.begin_stream-requires-clause-unread
begin_stream-requires-clause-unread g c = (first_unread (map g.S.Source.content c.args.sources.now) c.args.readers.now c.index-readers-0.result c.requires.some c.requires.unread)

pub begin_stream-requires-clause-few : goal.begin_stream-requires-clause-few
begin_stream-requires-clause-few g c = (first_unread (map g.S.Source.content c.args.sources.now) c.args.readers.now c.index-readers-0.result c.requires.some c.requires.unread).read.custom.few

pub add_files-requires-clause-fields : goal.add_files-requires-clause-fields
add_files-requires-clause-fields g c = fields_so (map g.S.Source.content c.args.sources.now) c.args.readers.now (get_or c.args.readers.now 0 c.index-readers-0.result) c.args.encoding (g.W.Sink.written c.args.sink.now) c.requires.some c.requires.unread c.requires.alike (sym (get_again c.args.readers.now 0 c.index-readers-0.result)) c.in_ok-stream.stream.writer.schema (schema_so (get_or c.args.readers.now 0 c.index-readers-0.result) c.args.encoding c.in_ok-stream.stream.writer (first_unread (map g.S.Source.content c.args.sources.now) c.args.readers.now c.index-readers-0.result c.requires.some c.requires.unread) c.in_ok-stream.ensures.writer)

pub add_files-requires-clause-going : goal.add_files-requires-clause-going
add_files-requires-clause-going g c = going_so _ _ c.in_ok-stream.stream.writer c.in_ok-stream.ensures.writer

pub returns-in_err-stream-clause-joins : goal.returns-in_err-stream-clause-joins
returns-in_err-stream-clause-joins g c =
    let e : c.from_residual.result ≡ Err c.in_err-stream.field-0.0 = is_err _ _ _ c.from_residual.ensures.0 c.from_residual.ensures.1 (λ f h. h) in
    not_begun (map g.S.Source.content c.args.sources.now) c.args.readers.now (get_or c.args.readers.now 0 c.index-readers-0.result) c.args.encoding (g.W.Sink.written c.args.sink.now) c.requires.some c.requires.unread c.requires.alike (sym (get_again c.args.readers.now 0 c.index-readers-0.result)) c.in_err-stream.field-0.0 c.from_residual.result (g.W.Sink.written c.begin_stream.new.sink) _ _ e c.in_err-stream.ensures.begins

pub returns-in_err-stream-clause-cause : goal.returns-in_err-stream-clause-cause
returns-in_err-stream-clause-cause g c =
    let e : c.from_residual.result ≡ Err c.in_err-stream.field-0.0 = is_err _ _ _ c.from_residual.ensures.0 c.from_residual.ensures.1 (λ f h. h) in
    putting_cause c.from_residual.result c.in_err-stream.field-0.0 _ (g.W.Sink.faults c.args.sink.now) (g.W.Sink.faults c.args.sink.now) _ e (omega arith) c.in_err-stream.ensures.cause

pub returns-in_err-stream-clause-kept : goal.returns-in_err-stream-clause-kept
returns-in_err-stream-clause-kept g c = kept_itself g.S.Source.content g.S.Source.faults g.S.Source.references c.args.sources.now

pub returns-in_err-add_files-clause-joins : goal.returns-in_err-add_files-clause-joins
returns-in_err-add_files-clause-joins g c =
    let e : c.from_residual-in_err-add_files.result ≡ Err c.in_err-add_files.field-0.0 = is_err _ _ _ c.from_residual-in_err-add_files.ensures.0 c.from_residual-in_err-add_files.ensures.1 (λ f h. h) in
    not_added (map g.S.Source.content c.args.sources.now) c.args.readers.now (get_or c.args.readers.now 0 c.index-readers-0.result) c.args.encoding (g.W.Sink.written c.args.sink.now) c.requires.some c.requires.unread c.requires.alike (sym (get_again c.args.readers.now 0 c.index-readers-0.result)) c.in_err-add_files.field-0.0 c.from_residual-in_err-add_files.result c.add_files.new.stream (g.W.Sink.written c.add_files.new.sink) (g.W.Sink.wants c.args.sink.now) (g.W.Sink.wants c.begin_stream.new.sink) (g.W.Sink.wants c.add_files.new.sink) e c.begin_stream.ensures.sink.wants
    (some_added (map g.S.Source.content c.args.sources.now) c.args.readers.now (get_or c.args.readers.now 0 c.index-readers-0.result) c.args.encoding (g.W.Sink.written c.args.sink.now) c.requires.some c.requires.unread c.requires.alike (sym (get_again c.args.readers.now 0 c.index-readers-0.result)) (Err c.in_err-add_files.field-0.0) c.in_ok-stream.stream c.add_files.new.stream (g.W.Sink.written c.begin_stream.new.sink) (g.W.Sink.written c.add_files.new.sink) (g.W.Sink.wants c.args.sink.now) (g.W.Sink.wants c.begin_stream.new.sink) (g.W.Sink.wants c.add_files.new.sink) c.in_ok-stream.ensures.writer.encoding (schema_so (get_or c.args.readers.now 0 c.index-readers-0.result) c.args.encoding c.in_ok-stream.stream.writer (first_unread (map g.S.Source.content c.args.sources.now) c.args.readers.now c.index-readers-0.result c.requires.some c.requires.unread) c.in_ok-stream.ensures.writer) c.in_ok-stream.ensures.begins c.in_err-add_files.ensures.adds)

pub returns-in_err-add_files-clause-cause : goal.returns-in_err-add_files-clause-cause
returns-in_err-add_files-clause-cause g c =
    let e : c.from_residual-in_err-add_files.result ≡ Err c.in_err-add_files.field-0.0 = is_err _ _ _ c.from_residual-in_err-add_files.ensures.0 c.from_residual-in_err-add_files.ensures.1 (λ f h. h) in
    files_cause c.from_residual-in_err-add_files.result c.in_err-add_files.field-0.0 _ _ _ (g.W.Sink.faults c.begin_stream.new.sink) _ e (λ k. k) c.begin_stream.ensures.sink.faults c.in_err-add_files.ensures.cause

pub returns-clause-joins : goal.returns-clause-joins
returns-clause-joins g c =
    let before : g.W.Sink.wants c.args.sink.now ≤ g.W.Sink.wants c.add_files.new.sink = omega (arith, c.begin_stream.ensures.sink.wants, c.in_ok-add_files.ensures.sink.wants) in
    all_joined (map g.S.Source.content c.args.sources.now) c.args.readers.now (get_or c.args.readers.now 0 c.index-readers-0.result) c.args.encoding (g.W.Sink.written c.args.sink.now) c.requires.some c.requires.unread c.requires.alike (sym (get_again c.args.readers.now 0 c.index-readers-0.result)) c.end_stream.result c.add_files.new.stream (g.W.Sink.written c.add_files.new.sink) (g.W.Sink.written c.end_stream.new.sink) (g.W.Sink.wants c.args.sink.now) (g.W.Sink.wants c.begin_stream.new.sink) (g.W.Sink.wants c.add_files.new.sink) (g.W.Sink.wants c.end_stream.new.sink) before (c.add_files.ensures.encoding ∙ c.in_ok-stream.ensures.writer.encoding)
    (some_added (map g.S.Source.content c.args.sources.now) c.args.readers.now (get_or c.args.readers.now 0 c.index-readers-0.result) c.args.encoding (g.W.Sink.written c.args.sink.now) c.requires.some c.requires.unread c.requires.alike (sym (get_again c.args.readers.now 0 c.index-readers-0.result)) (Ok tt) c.in_ok-stream.stream c.add_files.new.stream (g.W.Sink.written c.begin_stream.new.sink) (g.W.Sink.written c.add_files.new.sink) (g.W.Sink.wants c.args.sink.now) (g.W.Sink.wants c.begin_stream.new.sink) (g.W.Sink.wants c.add_files.new.sink) c.in_ok-stream.ensures.writer.encoding (schema_so (get_or c.args.readers.now 0 c.index-readers-0.result) c.args.encoding c.in_ok-stream.stream.writer (first_unread (map g.S.Source.content c.args.sources.now) c.args.readers.now c.index-readers-0.result c.requires.some c.requires.unread) c.in_ok-stream.ensures.writer) c.in_ok-stream.ensures.begins c.in_ok-add_files.ensures.adds) c.end_stream.ensures.ends

pub returns-clause-cause : goal.returns-clause-cause
returns-clause-cause g c =
    let before : g.W.Sink.faults c.args.sink.now ≤ g.W.Sink.faults c.add_files.new.sink = omega (arith, c.begin_stream.ensures.sink.faults, c.in_ok-add_files.ensures.sink.faults) in
    putting_causes c.end_stream.result _ _ (g.W.Sink.faults c.add_files.new.sink) _ before c.end_stream.ensures.cause
