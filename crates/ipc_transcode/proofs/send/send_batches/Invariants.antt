use Rattle.std.proofs.Common.{◌≡◌, ◌*◌, ◌^◌, ◌≤◌}
use Rattle.ipc_io.specs.Outside.{SinkKept, SourceKept}
use Rattle.laws_walk.specs.Places.{schema_of_reader}
use Rattle.laws_walk.specs.Sends.{IsWriter}
use Rattle.ipc_transcode.proofs.AllBatches.{SentSome}
use Rattle.ipc_transcode.proofs.FetchedCalls.{FetchedSome}
use Rattle.ipc_transcode.proofs.send.send_batches.Given as goal

abbrev pub invariant-loop : goal.invariant-loop
invariant-loop g l = record {
  sends : SentSome l.fn.writer.encoding l.fn.reader l.fn.writer (g.W.Sink.written l.fn.sink) (g.S.Source.content l.fn.source) l.reader l.writer (g.W.Sink.written l.sink) l.summary.batches l.summary.rows l.counter;
  writer : IsWriter (schema_of_reader l.reader) l.fn.writer.encoding l.writer;
  metadata : l.reader.metadata ≡ l.fn.reader.metadata;
  projection : l.reader.projection ≡ l.fn.reader.projection;
  fetched : FetchedSome l.fn.writer.encoding l.fn.reader l.fn.writer (g.W.Sink.written l.fn.sink) (g.S.Source.content l.fn.source) l.reader.block (g.S.Source.fetched l.fn.source) (g.S.Source.fetched l.source);
  batches : l.summary.batches ≤ l.counter;
  rows : l.summary.rows ≤ l.counter * 2 ^ 64;
  kept : SourceKept g.S.Source.content g.S.Source.faults g.S.Source.references l.fn.source l.source;
  sink : SinkKept g.W.Sink.faults g.W.Sink.wants g.W.Sink.references l.fn.sink l.sink;
}
