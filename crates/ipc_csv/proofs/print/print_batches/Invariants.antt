use Rattle.std.proofs.Common.{◌≡◌, ◌*◌, ◌^◌, ◌≤◌}
use Rattle.std.specs.Prelude.{max}
use Rattle.ipc_io.specs.Outside.{SinkKept, SourceKept}
use Rattle.csv_rows.specs.Output.{IsReady}
use Rattle.ipc_csv.proofs.AllPrints.{PrintedSome}
use Rattle.ipc_csv.proofs.FetchedPrints.{FetchedSome}
use Rattle.ipc_csv.proofs.print.print_batches.Given as goal

abbrev pub invariant-loop : goal.invariant-loop
invariant-loop g l = record {
  prints : PrintedSome l.fn.reader l.fn.out (g.W.Sink.written l.fn.sink) (g.S.Source.content l.fn.source) l.reader l.out (g.W.Sink.written l.sink) l.summary.batches l.summary.rows l.counter;
  ready : IsReady l.out;
  metadata : l.reader.metadata ≡ l.fn.reader.metadata;
  projection : l.reader.projection ≡ l.fn.reader.projection;
  fetched : FetchedSome l.fn.reader l.fn.out (g.W.Sink.written l.fn.sink) (g.S.Source.content l.fn.source) l.reader.block (g.S.Source.fetched l.fn.source) (g.S.Source.fetched l.source);
  batches : l.summary.batches ≤ l.counter;
  rows : l.summary.rows ≤ l.counter * 2 ^ 64;
  kept : SourceKept g.S.Source.content g.S.Source.faults g.S.Source.references l.fn.source l.source;
  longest : g.W.Sink.longest l.sink ≤ max (g.W.Sink.longest l.fn.sink) 65536;
  sink : SinkKept g.W.Sink.faults g.W.Sink.wants g.W.Sink.references l.fn.sink l.sink;
}
