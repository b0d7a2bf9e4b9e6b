use Rattle.std.proofs.Common.{◌≡◌, ◌∙◌, ◌<◌, Err, length, map, get_or, refl, arith, add-one}
use Rattle.ipc_io.proofs.Kept.{sink_kept_on}
use Rattle.laws_walk.proofs.Below.{is_err}
use Rattle.ipc_concat.proofs.AllFiles.{all_so_far, files_cause, more_so_far, none_so_far, stopped_so}
use Rattle.ipc_concat.proofs.Files.{drop_more, drop_set, same_at}
use Rattle.ipc_concat.proofs.Joining.{unread_length}
use Rattle.ipc_concat.proofs.Keeping.{kept_itself, length_of}
use Rattle.ipc_concat.proofs.OpenCalls.{content_at, kept_with, rose_with}
use Rattle.ipc_concat.proofs.FileCalls.{reader_of, size_of}
use Rattle.ipc_concat.proofs.stream.add_files.Goals as goal

pub loop-i-init : goal.loop-i-init
loop-i-init g c = record {
  adds = none_so_far (map g.S.Source.content c.args.sources.now) c.args.readers.now c.args.stream.now (g.W.Sink.written c.args.sink.now);
  readers = refl;
  going = c.requires.going;
  schema = refl;
  encoding = refl;
  kept = kept_itself g.S.Source.content g.S.Source.faults g.S.Source.references c.args.sources.now;
  sink = record { faults = omega arith; wants = omega arith; references = refl };
}

pub loop-i-preserved : goal.loop-i-preserved
loop-i-preserved g c =
    let less : c.loop-i.i < length c.args.readers.now = omega (arith, unread_length (map g.S.Source.content c.args.sources.now) c.args.readers.now c.requires.unread, length_of g.S.Source.content c.args.sources.now) in
    record {
      adds = more_so_far (map g.S.Source.content c.args.sources.now) c.args.readers.now c.args.stream.now (g.W.Sink.written c.args.sink.now) c.loop-i.i (get_or c.loop-i.readers c.loop-i.i c.index-readers-i.result) c.index-readers-i.result (g.S.Source.content (get_or c.loop-i.sources c.loop-i.i c.index-sources-i.result)) c.loop-i.stream c.add_file.new.stream (g.W.Sink.written c.loop-i.sink) (g.W.Sink.written c.add_file.new.sink) (g.W.Sink.wants c.loop-i.sink) (g.W.Sink.wants c.add_file.new.sink) c.requires.unread c.requires.fields less (same_at c.loop-i.readers c.args.readers.now c.loop-i.i c.index-readers-i.result c.loop-i.invariant.readers) (content_at g.S.Source.content g.S.Source.faults g.S.Source.references c.args.sources.now c.loop-i.sources c.loop-i.i c.index-sources-i.result c.loop-i.invariant.kept) c.loop-i.invariant.encoding c.loop-i.invariant.adds c.in_ok-add_file.ensures.adds;
      readers = rw (add-one c.loop-i.i) (drop_set c.loop-i.readers c.loop-i.i c.add_file.new.reader ∙ drop_more c.loop-i.readers c.args.readers.now c.loop-i.i c.loop-i.invariant.readers);
      going = c.in_ok-add_file.ensures.going;
      schema = c.in_ok-add_file.ensures.schema ∙ c.loop-i.invariant.schema;
      encoding = c.in_ok-add_file.ensures.encoding ∙ c.loop-i.invariant.encoding;
      kept = kept_with g.S.Source.content g.S.Source.faults g.S.Source.references c.args.sources.now c.loop-i.sources c.loop-i.i c.index-sources-i.result c.loop-i.invariant.kept c.add_file.new.source c.in_ok-add_file.ensures.kept;
      sink = sink_kept_on c.loop-i.invariant.sink c.in_ok-add_file.ensures.sink;
    }

pub add_file-requires-clause-whole : goal.add_file-requires-clause-whole
add_file-requires-clause-whole g c =
    let less : c.loop-i.i < length c.args.readers.now = omega (arith, unread_length (map g.S.Source.content c.args.sources.now) c.args.readers.now c.requires.unread, length_of g.S.Source.content c.args.sources.now) in
    size_of g.S.Source.content g.S.Source.faults g.S.Source.references c.args.sources.now c.loop-i.sources c.loop-i.i c.index-sources-i.result c.loop-i.invariant.kept c.args.readers.now (get_or c.loop-i.readers c.loop-i.i c.index-readers-i.result) c.index-readers-i.result c.requires.unread less (same_at c.loop-i.readers c.args.readers.now c.loop-i.i c.index-readers-i.result c.loop-i.invariant.readers)

pub add_file-requires-clause-reader : goal.add_file-requires-clause-reader
add_file-requires-clause-reader g c =
    let less : c.loop-i.i < length c.args.readers.now = omega (arith, unread_length (map g.S.Source.content c.args.sources.now) c.args.readers.now c.requires.unread, length_of g.S.Source.content c.args.sources.now) in
    reader_of c.args.stream.now.writer.schema c.loop-i.stream.writer.schema (map g.S.Source.content c.args.sources.now) c.args.readers.now c.loop-i.i (get_or c.loop-i.readers c.loop-i.i c.index-readers-i.result) c.index-readers-i.result c.loop-i.invariant.schema c.requires.unread c.requires.fields less (same_at c.loop-i.readers c.args.readers.now c.loop-i.i c.index-readers-i.result c.loop-i.invariant.readers)

pub returns-in_err-add_file-clause-adds : goal.returns-in_err-add_file-clause-adds
returns-in_err-add_file-clause-adds g c =
    let e : c.from_residual.result ≡ Err c.in_err-add_file.field-0.0 = is_err _ _ _ c.from_residual.ensures.0 c.from_residual.ensures.1 (λ f h. h) in
    let less : c.loop-i.i < length c.args.readers.now = omega (arith, unread_length (map g.S.Source.content c.args.sources.now) c.args.readers.now c.requires.unread, length_of g.S.Source.content c.args.sources.now) in
    stopped_so (map g.S.Source.content c.args.sources.now) c.args.readers.now c.args.stream.now (g.W.Sink.written c.args.sink.now) c.loop-i.i (get_or c.loop-i.readers c.loop-i.i c.index-readers-i.result) c.index-readers-i.result (g.S.Source.content (get_or c.loop-i.sources c.loop-i.i c.index-sources-i.result)) c.loop-i.stream c.add_file.new.stream (g.W.Sink.written c.loop-i.sink) (g.W.Sink.written c.add_file.new.sink) (g.W.Sink.wants c.loop-i.sink) (g.W.Sink.wants c.add_file.new.sink) c.requires.unread c.requires.fields less (same_at c.loop-i.readers c.args.readers.now c.loop-i.i c.index-readers-i.result c.loop-i.invariant.readers) (content_at g.S.Source.content g.S.Source.faults g.S.Source.references c.args.sources.now c.loop-i.sources c.loop-i.i c.index-sources-i.result c.loop-i.invariant.kept) c.loop-i.invariant.encoding c.loop-i.invariant.adds c.in_err-add_file.field-0.0 c.from_residual.result (g.W.Sink.wants c.args.sink.now) c.add_file.new.stream e c.loop-i.invariant.sink.wants c.in_err-add_file.ensures.adds

pub returns-in_err-add_file-clause-cause : goal.returns-in_err-add_file-clause-cause
returns-in_err-add_file-clause-cause g c =
    let e : c.from_residual.result ≡ Err c.in_err-add_file.field-0.0 = is_err _ _ _ c.from_residual.ensures.0 c.from_residual.ensures.1 (λ f h. h) in
    files_cause c.from_residual.result c.in_err-add_file.field-0.0 _ _ _ (g.W.Sink.faults c.loop-i.sink) _ e (rose_with g.S.Source.content g.S.Source.faults g.S.Source.references c.args.sources.now c.loop-i.sources c.loop-i.i c.index-sources-i.result c.loop-i.invariant.kept c.add_file.new.source c.loop-i-test.true) c.loop-i.invariant.sink.faults c.in_err-add_file.ensures.cause

pub returns-in_err-add_file-clause-kept : goal.returns-in_err-add_file-clause-kept
returns-in_err-add_file-clause-kept g c = kept_with g.S.Source.content g.S.Source.faults g.S.Source.references c.args.sources.now c.loop-i.sources c.loop-i.i c.index-sources-i.result c.loop-i.invariant.kept c.add_file.new.source c.in_err-add_file.ensures.kept

pub returns-clause-adds : goal.returns-clause-adds
returns-clause-adds g c = all_so_far (map g.S.Source.content c.args.sources.now) c.args.readers.now c.args.stream.now (g.W.Sink.written c.args.sink.now) c.loop-i.stream (g.W.Sink.written c.loop-i.sink) c.loop-i.i 0 0 (omega (arith, length_of g.S.Source.content c.args.sources.now)) c.loop-i.invariant.adds
