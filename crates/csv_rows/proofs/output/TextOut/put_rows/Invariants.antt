use Rattle.std.proofs.Common.{◌++◌, ◌≤◌, ℕ, List, Option}
use Rattle.std.specs.Prelude.{max}
use Rattle.arrow_arrays.specs.PartsOf.{all_parts_of}
use Rattle.csv_rows.specs.Shown.{shown_rows}
use Rattle.ipc_io.specs.Outside.{SinkKept}
use Rattle.csv_rows.specs.Output.{HasWritten, IsReady}
use Rattle.csv_rows.proofs.output.TextOut.put_rows.Given as goal

abbrev pub invariant-loop-row : goal.invariant-loop-row
invariant-loop-row g l = record {
  writes : (start : Option (List ℕ)) (text : List ℕ) → HasWritten start (g.W.Sink.written l.fn.sink) l.fn.self text → HasWritten start (g.W.Sink.written l.sink) l.self (text ++ shown_rows (all_parts_of l.arrays) 0 l.row);
  ready : IsReady l.self;
  longest : g.W.Sink.longest l.sink ≤ max (g.W.Sink.longest l.fn.sink) 65536;
  sink : SinkKept g.W.Sink.faults g.W.Sink.wants g.W.Sink.references l.fn.sink l.sink;
}
