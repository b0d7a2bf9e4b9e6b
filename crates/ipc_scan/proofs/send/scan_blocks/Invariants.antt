use Rattle.std.proofs.Common.{◌*◌, ◌^◌, ◌≤◌}
use Rattle.ipc_io.specs.Outside.{SinkKept, SourceKept}
use Rattle.laws_walk.specs.Places.{schema_of_reader}
use Rattle.laws_walk.specs.Sends.{IsWriter}
use Rattle.ipc_scan.proofs.AllScans.{FetchedSome, ScannedSome}
use Rattle.ipc_scan.proofs.send.scan_blocks.Given as goal

abbrev pub invariant-loop-number : goal.invariant-loop-number
invariant-loop-number g l = record {
  sends : ScannedSome l.scanner l.fn.writer.encoding l.fn.writer (g.W.Sink.written l.fn.sink) (g.S.Source.content l.fn.source) l.dictionaries l.number l.writer (g.W.Sink.written l.sink) l.summary.batches l.summary.rows;
  writer : IsWriter (schema_of_reader l.scanner.reader) l.fn.writer.encoding l.writer;
  fetched : FetchedSome l.scanner (g.S.Source.content l.fn.source) l.number (g.S.Source.fetched l.fn.source) (g.S.Source.fetched l.source);
  batches : l.summary.batches ≤ l.number;
  rows : l.summary.rows ≤ l.number * 2 ^ 64;
  kept : SourceKept g.S.Source.content g.S.Source.faults g.S.Source.references l.fn.source l.source;
  sink : SinkKept g.W.Sink.faults g.W.Sink.wants g.W.Sink.references l.fn.sink l.sink;
}
