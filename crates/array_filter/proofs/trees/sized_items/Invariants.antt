use Rattle.std.proofs.Common.{◌≡◌, take}
use Rattle.array_filter.specs.Offsets.{sized_items_taken}
use Rattle.array_filter.specs.Runs.{rows_in_runs}
use Rattle.array_filter.proofs.OffsetRuns.{Sized}
use Rattle.array_filter.proofs.trees.sized_items.Given as goal

abbrev pub invariant-loop-run : goal.invariant-loop-run
invariant-loop-run l = record {
  items : rows_in_runs l.spans.items ≡ sized_items_taken (rows_in_runs (take l.run-index l.runs)) l.size;
  sized : Sized l.runs l.spans.items l.run-index l.size l.held;
}
