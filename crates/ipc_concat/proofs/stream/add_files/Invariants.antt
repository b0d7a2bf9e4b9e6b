use Rattle.std.proofs.Common.{◌≡◌, drop, map}
use Rattle.ipc_io.specs.Outside.{SinkKept}
use Rattle.ipc_concat.specs.Concat.{EachKept}
use Rattle.ipc_concat.specs.Files.{IsGoing}
use Rattle.ipc_concat.proofs.AllFiles.{FilesSoFar}
use Rattle.ipc_concat.proofs.stream.add_files.Given as goal

abbrev pub invariant-loop-i : goal.invariant-loop-i
invariant-loop-i g l = record {
  adds : FilesSoFar (map g.S.Source.content l.initial.sources) l.initial.readers l.fn.stream (g.W.Sink.written l.fn.sink) l.stream (g.W.Sink.written l.sink) l.i;
  readers : drop l.i l.readers ≡ drop l.i l.initial.readers;
  going : IsGoing l.stream;
  schema : l.stream.writer.schema ≡ l.fn.stream.writer.schema;
  encoding : l.stream.writer.encoding ≡ l.fn.stream.writer.encoding;
  kept : EachKept g.S.Source.content g.S.Source.faults g.S.Source.references l.initial.sources l.sources;
  sink : SinkKept g.W.Sink.faults g.W.Sink.wants g.W.Sink.references l.fn.sink l.sink;
}
