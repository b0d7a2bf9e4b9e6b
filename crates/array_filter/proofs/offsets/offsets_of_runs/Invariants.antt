use Rattle.std.proofs.Common.{◌≡◌, map, take}
use Rattle.array_filter.specs.Offsets.{offsets_taken}
use Rattle.array_filter.specs.Runs.{rows_in_runs}
use Rattle.array_filter.proofs.OffsetRuns.{Begun}
use Rattle.array_filter.proofs.offsets.offsets_of_runs.Given as goal

abbrev pub invariant-loop-run : goal.invariant-loop-run
invariant-loop-run g l = record {
  offsets : map g.O.Offset.number l.ends.items ≡ offsets_taken (rows_in_runs (take l.run-index l.runs)) (map g.O.Offset.number l.offsets);
  begun : Begun (map g.O.Offset.number l.offsets) l.runs l.run-index l.begin;
}
