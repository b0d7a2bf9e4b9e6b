use Rattle.std.proofs.Common.{◌≡◌}
use Rattle.ipc_io.specs.Outside.{SinkKept, SourceKept}
use Rattle.ipc_concat.specs.Files.{IsGoing}
use Rattle.ipc_concat.proofs.Files.{SoFar}
use Rattle.ipc_concat.proofs.stream.add_file.Given as goal

abbrev pub invariant-loop : goal.invariant-loop
invariant-loop g l = record {
  adds : SoFar l.fn.reader l.fn.stream (g.W.Sink.written l.fn.sink) (g.S.Source.content l.fn.source) l.reader l.stream (g.W.Sink.written l.sink) l.counter;
  going : IsGoing l.stream;
  schema : l.stream.writer.schema ≡ l.fn.stream.writer.schema;
  encoding : l.stream.writer.encoding ≡ l.fn.stream.writer.encoding;
  metadata : l.reader.metadata ≡ l.fn.reader.metadata;
  projection : l.reader.projection ≡ l.fn.reader.projection;
  kept : SourceKept g.S.Source.content g.S.Source.faults g.S.Source.references l.fn.source l.source;
  sink : SinkKept g.W.Sink.faults g.W.Sink.wants g.W.Sink.references l.fn.sink l.sink;
}
