use Rattle.std.proofs.Common.{◌≡◌, ◌≤◌, ◌<◌, ◌++◌, take, drop, get_or}
use Rattle.arrow_arrays.specs.Parts.{cells_in, rows_each}
use Rattle.arrow_arrays.specs.PartsOf.{parts_of, forest_of}
use Rattle.ipc_dictionaries.specs.Standing.{all_cells, cells_from}
use Rattle.ipc_dictionaries.proofs.comparison.place_behind.Given as goal

abbrev pub invariant-loop-i : goal.invariant-loop-i
invariant-loop-i l = record {
  left : l.row < l.rows;
  there : l.start ≤ get_or (rows_each (forest_of l.parts)) l.i 0;
  front : cells_from l.parts l.fn.from ≡ take l.row (cells_in (parts_of l.array)) ++ drop l.start (all_cells (drop l.i l.parts));
}
