use Rattle.std.proofs.Common.{take, ◌≤◌, length}
use Rattle.arrow_arrays.specs.PartsOf.{all_parts_of}
use Rattle.csv_rows.specs.Shown.{shown_cells}
use Rattle.csv_rows.specs.Writers.{IsInRow, text_of}
use Rattle.csv_rows.proofs.rows.write_row.Given as goal

abbrev pub invariant-loop-i : goal.invariant-loop-i
invariant-loop-i l = IsInRow (text_of l.fn.writer) l.writer (take l.i (shown_cells (all_parts_of l.arrays) l.row))
