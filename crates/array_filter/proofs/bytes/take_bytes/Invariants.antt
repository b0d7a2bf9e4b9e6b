use Rattle.std.proofs.Common.{◌≡◌, take}
use Rattle.std.specs.List.{flat_map}
use Rattle.arrow_buffers.specs.Leaf.{fixed_row}
use Rattle.array_filter.specs.Runs.{rows_in_runs}
use Rattle.array_filter.proofs.bytes.take_bytes.Given as goal

abbrev pub invariant-loop-run : goal.invariant-loop-run
invariant-loop-run l = l.taken.items ≡ flat_map (fixed_row l.size l.bytes) (rows_in_runs (take l.run-index l.runs))
