use Rattle.std.proofs.Common.{◌≡◌, ◌∙◌, Err, length, refl, ap, arith}
use Rattle.ipc_io.proofs.Kept.{sink_kept_on, source_kept_on}
use Rattle.laws_walk.proofs.Below.{is_err}
use Rattle.laws_walk.specs.Below.{FileMetadata}
use Rattle.ipc_concat.proofs.Files.{cause_before, file_done, file_stopped, none_so_far, one_more, reader_on}
use Rattle.ipc_concat.proofs.stream.add_file.Goals as goal

pub loop-init : goal.loop-init
loop-init g c = record {
  adds = none_so_far c.args.reader.now c.args.stream.now (g.W.Sink.written c.args.sink.now) (g.S.Source.content c.args.source.now);
  going = c.requires.going;
  schema = refl;
  encoding = refl;
  metadata = refl;
  projection = refl;
  kept = record { content = refl; faults = omega arith; references = refl };
  sink = record { faults = omega arith; wants = omega arith; references = refl };
}

pub loop-preserved : goal.loop-preserved
loop-preserved g c = record {
  adds = one_more c.args.reader.now c.args.stream.now (g.W.Sink.written c.args.sink.now) (g.S.Source.content c.args.source.now) (g.S.Source.content c.loop.source) c.loop.reader c.add_next.new.reader c.loop.stream c.add_next.new.stream (g.W.Sink.written c.loop.sink) (g.W.Sink.written c.add_next.new.sink) c.loop.counter 0 0 c.loop.invariant.kept.content c.loop.invariant.encoding c.loop.invariant.adds c.in_ok-add_next.ensures.adds c.in_ok-add_next.ensures.metadata;
  going = c.in_ok-add_next.ensures.going;
  schema = c.in_ok-add_next.ensures.schema ∙ c.loop.invariant.schema;
  encoding = c.in_ok-add_next.ensures.encoding ∙ c.loop.invariant.encoding;
  metadata = c.in_ok-add_next.ensures.metadata ∙ c.loop.invariant.metadata;
  projection = c.in_ok-add_next.ensures.projection ∙ c.loop.invariant.projection;
  kept = source_kept_on c.loop.invariant.kept c.in_ok-add_next.ensures.kept;
  sink = sink_kept_on c.loop.invariant.sink c.in_ok-add_next.ensures.sink;
}

pub add_next-requires-clause-reader : goal.add_next-requires-clause-reader
add_next-requires-clause-reader g c = reader_on _ _ c.args.reader.now c.loop.reader c.loop.invariant.schema c.loop.invariant.metadata c.loop.invariant.projection c.requires.reader

pub returns-in_err-add_next-clause-adds : goal.returns-in_err-add_next-clause-adds
returns-in_err-add_next-clause-adds g c =
    let e : c.from_residual.result ≡ Err c.in_err-add_next.field-0.0 = is_err _ _ _ c.from_residual.ensures.0 c.from_residual.ensures.1 (λ f h. h) in
    file_stopped c.args.reader.now c.args.stream.now (g.W.Sink.written c.args.sink.now) (g.S.Source.content c.args.source.now) (g.S.Source.content c.loop.source) c.loop.reader c.add_next.new.reader c.loop.stream c.add_next.new.stream (g.W.Sink.written c.loop.sink) (g.W.Sink.written c.add_next.new.sink) c.loop.counter (g.W.Sink.wants c.loop.sink) (g.W.Sink.wants c.add_next.new.sink) c.loop.invariant.kept.content c.loop.invariant.encoding c.loop.invariant.adds
    c.from_residual.result c.in_err-add_next.field-0.0 (g.W.Sink.wants c.args.sink.now) e c.loop.invariant.sink.wants c.loop.invariant.metadata c.add_next.new.stream c.in_err-add_next.ensures.adds

pub returns-in_err-add_next-clause-cause : goal.returns-in_err-add_next-clause-cause
returns-in_err-add_next-clause-cause g c =
    let e : c.from_residual.result ≡ Err c.in_err-add_next.field-0.0 = is_err _ _ _ c.from_residual.ensures.0 c.from_residual.ensures.1 (λ f h. h) in
    cause_before c.from_residual.result c.in_err-add_next.field-0.0 _ (g.S.Source.faults c.loop.source) _ _ (g.W.Sink.faults c.loop.sink) _ e c.loop.invariant.kept.faults c.loop.invariant.sink.faults c.in_err-add_next.ensures.cause

pub returns-clause-adds : goal.returns-clause-adds
returns-clause-adds g c =
    let n : c.batch_count-end.result ≡ length c.args.reader.now.metadata.blocks.items = c.batch_count-end.ensures.count ∙ ap (λ (m : FileMetadata). length m.blocks.items) c.metadata.ensures in
    file_done c.args.reader.now c.args.stream.now (g.W.Sink.written c.args.sink.now) (g.S.Source.content c.args.source.now) c.loop.reader c.loop.stream (g.W.Sink.written c.loop.sink) c.loop.counter 0 0 (omega (arith, n)) c.loop.invariant.metadata c.loop.invariant.adds
