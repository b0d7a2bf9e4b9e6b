use Rattle.std.proofs.Common.{◌<◌, IfSome, ◌≡◌, ℕ, Option, Ok, Err, ◌+◌, ◌^◌, ◌∙◌, sym, ap, subst, arith}
use Rattle.ipc_io.proofs.Kept.{sink_kept_on, source_kept_on}
use Rattle.ipc_reader.proofs.Below.{is_err}
use Rattle.laws_walk.specs.Places.{schema_of_reader}
use Rattle.laws_walk.specs.Sends.{IsWriter}
use Rattle.laws_walk.specs.declared.summary.Summary.{Summary}
use Rattle.ipc_transcode.proofs.AllBatches.{NextOf, SentSome, no_more, one_more, refused}
use Rattle.ipc_transcode.proofs.FetchedCalls.{more_fetched}
use Rattle.ipc_transcode.proofs.Readers.{reader_on}
use Rattle.ipc_transcode.proofs.send.send_batches.Goals as goal
use Rattle.ipc_transcode.proofs.send.send_batches.Goals.{in-Some, in_default}

pub returns-in_err-rows-clause-sends : goal.returns-in_err-rows-clause-sends
returns-in_err-rows-clause-sends g c =
    let e : c.from_residual.result ≡ Err c.in_err-rows.field-0.0 = is_err _ _ _ c.from_residual.ensures.0 c.from_residual.ensures.1 (λ f h. h) in
    refused _ _ _ _ (g.S.Source.content c.args.source.now) (g.S.Source.content c.loop.source) c.loop.reader c.send_next.new.reader c.loop.writer c.send_next.new.writer _ _ c.loop.summary.batches c.loop.summary.rows c.loop.counter (g.W.Sink.wants c.loop.sink) _
    c.loop.invariant.kept.content c.loop.invariant.writer.encoding c.loop.invariant.metadata c.loop.invariant.projection c.loop.invariant.sends c.in_err-rows.field-0.0 c.from_residual.result (g.W.Sink.wants c.args.sink.now) c.loop.invariant.sink.wants e c.in_err-rows.ensures.sends

pub loop-preserved : goal.loop-preserved
loop-preserved g c = record {
  sends = elim c.match-branch-2.branch [
    | in-Some w ↦ subst (λ (s : Summary). SentSome c.args.writer.now.encoding c.args.reader.now c.args.writer.now (g.W.Sink.written c.args.sink.now) (g.S.Source.content c.args.source.now) c.send_next.new.reader c.send_next.new.writer (g.W.Sink.written c.send_next.new.sink) s.batches s.rows (c.loop.counter + 1)) (sym w.summary-is)
        (one_more _ _ _ _ (g.S.Source.content c.args.source.now) (g.S.Source.content c.loop.source) c.loop.reader c.send_next.new.reader c.loop.writer c.send_next.new.writer _ _ c.loop.summary.batches c.loop.summary.rows c.loop.counter (g.W.Sink.wants c.loop.sink) (g.W.Sink.wants c.send_next.new.sink) c.loop.invariant.kept.content c.loop.invariant.writer.encoding c.loop.invariant.metadata c.loop.invariant.projection c.loop.invariant.sends w.in-Some.rows c.send_next.ensures.metadata c.send_next.ensures.projection (subst (λ o. NextOf c.args.writer.now.encoding c.args.reader.now c.args.writer.now (g.W.Sink.written c.args.sink.now) (g.S.Source.content c.loop.source) c.loop.reader c.loop.writer (g.W.Sink.written c.loop.sink) (Ok o) c.send_next.new.reader c.send_next.new.writer (g.W.Sink.written c.send_next.new.sink) (g.W.Sink.wants c.loop.sink) (g.W.Sink.wants c.send_next.new.sink)) w.in-Some.is c.in_ok-rows.ensures.sends))
    | in_default w ↦ subst (λ (s : Summary). SentSome c.args.writer.now.encoding c.args.reader.now c.args.writer.now (g.W.Sink.written c.args.sink.now) (g.S.Source.content c.args.source.now) c.send_next.new.reader c.send_next.new.writer (g.W.Sink.written c.send_next.new.sink) s.batches s.rows (c.loop.counter + 1)) (sym w.summary-is)
        (no_more _ _ _ _ (g.S.Source.content c.args.source.now) (g.S.Source.content c.loop.source) c.loop.reader c.send_next.new.reader c.loop.writer c.send_next.new.writer _ _ c.loop.summary.batches c.loop.summary.rows c.loop.counter (g.W.Sink.wants c.loop.sink) (g.W.Sink.wants c.send_next.new.sink) c.loop.invariant.kept.content c.loop.invariant.writer.encoding c.loop.invariant.metadata c.loop.invariant.projection c.loop.invariant.sends (subst (λ o. NextOf c.args.writer.now.encoding c.args.reader.now c.args.writer.now (g.W.Sink.written c.args.sink.now) (g.S.Source.content c.loop.source) c.loop.reader c.loop.writer (g.W.Sink.written c.loop.sink) (Ok o) c.send_next.new.reader c.send_next.new.writer (g.W.Sink.written c.send_next.new.sink) (g.W.Sink.wants c.loop.sink) (g.W.Sink.wants c.send_next.new.sink)) w.in_default.is c.in_ok-rows.ensures.sends))
  ];
  writer = subst (λ e. IsWriter (schema_of_reader c.send_next.new.reader) e c.send_next.new.writer) c.loop.invariant.writer.encoding c.in_ok-rows.ensures.writer;
  metadata = c.send_next.ensures.metadata ∙ c.loop.invariant.metadata;
  projection = c.send_next.ensures.projection ∙ c.loop.invariant.projection;
  fetched = more_fetched c.args.writer.now.encoding c.args.reader.now c.args.writer.now (g.W.Sink.written c.args.sink.now) (g.S.Source.content c.args.source.now) (g.S.Source.content c.loop.source) c.loop.reader c.loop.writer (g.W.Sink.written c.loop.sink) c.loop.summary.batches c.loop.summary.rows c.loop.counter c.send_next.new.reader.block (g.S.Source.fetched c.args.source.now) (g.S.Source.fetched c.loop.source) (g.S.Source.fetched c.send_next.new.source) c.loop.invariant.kept.content c.loop.invariant.metadata c.loop.invariant.projection c.loop.invariant.sends c.loop.invariant.fetched c.send_next.ensures.fetched;
  batches = elim c.match-branch-2.branch [ in-Some w ↦ omega (arith, c.loop.invariant.batches, ap (λ (s : Summary). s.batches) w.summary-is) | in_default w ↦ omega (arith, c.loop.invariant.batches, ap (λ (s : Summary). s.batches) w.summary-is) ];
  rows = elim c.match-branch-2.branch [ in-Some w ↦ omega (arith, c.loop.invariant.rows, ap (λ (s : Summary). s.rows) w.summary-is, subst (λ (o : Option ℕ). IfSome o (λ k. k < 2 ^ 64)) w.in-Some.is c.in_ok-rows.ensures.few) | in_default w ↦ omega (arith, c.loop.invariant.rows, ap (λ (s : Summary). s.rows) w.summary-is) ];
  kept = source_kept_on c.loop.invariant.kept c.send_next.ensures.kept;
  sink = sink_kept_on c.loop.invariant.sink c.send_next.ensures.sink;
}

pub returns-in_err-rows-clause-fetched : goal.returns-in_err-rows-clause-fetched
returns-in_err-rows-clause-fetched g c = more_fetched c.args.writer.now.encoding c.args.reader.now c.args.writer.now (g.W.Sink.written c.args.sink.now) (g.S.Source.content c.args.source.now) (g.S.Source.content c.loop.source) c.loop.reader c.loop.writer (g.W.Sink.written c.loop.sink) c.loop.summary.batches c.loop.summary.rows c.loop.counter c.send_next.new.reader.block (g.S.Source.fetched c.args.source.now) (g.S.Source.fetched c.loop.source) (g.S.Source.fetched c.send_next.new.source) c.loop.invariant.kept.content c.loop.invariant.metadata c.loop.invariant.projection c.loop.invariant.sends c.loop.invariant.fetched c.send_next.ensures.fetched

pub send_next-requires-clause-reader : goal.send_next-requires-clause-reader
send_next-requires-clause-reader g c = reader_on c.args.reader.now c.loop.reader c.loop.invariant.metadata c.loop.invariant.projection c.requires.reader
