use Rattle.std.proofs.Common.{◌≡◌, map, take}
use Rattle.array_filter.specs.Offsets.{items_taken}
use Rattle.array_filter.specs.Runs.{rows_in_runs}
use Rattle.array_filter.proofs.OffsetRuns.{Led}
use Rattle.array_filter.proofs.offsets.items_of_runs.Given as goal

abbrev pub invariant-loop-run : goal.invariant-loop-run
invariant-loop-run g l = record {
  items : rows_in_runs l.items.items ≡ items_taken (rows_in_runs (take l.run-index l.runs)) (map g.O.Offset.number l.offsets);
  led : Led (map g.O.Offset.number l.offsets) l.runs l.items.items l.run-index;
}
