use Rattle.std.proofs.Common.{◌≡◌, ◌≤◌, ◌*◌, length, take}
use Rattle.std.specs.List.{sum}
use Rattle.arrow_arrays.specs.Parts.{rows_each}
use Rattle.arrow_arrays.specs.PartsOf.{forest_of}
use Rattle.ipc_dictionaries.specs.Standing.{all_cells}
use Rattle.ipc_dictionaries.proofs.comparison.rows_of.Given as goal

abbrev pub invariant-loop-part : goal.invariant-loop-part
invariant-loop-part l = record {
  rows : l.rows ≡ sum (take l.part-index (rows_each (forest_of l.parts)));
  cells : l.rows ≡ length (all_cells (take l.part-index l.parts));
  bound : l.rows ≤ l.part-index * 18446744073709551615;
}
