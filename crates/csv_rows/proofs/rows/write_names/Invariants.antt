use Rattle.std.proofs.Common.{take}
use Rattle.csv_rows.specs.Shown.{shown_names}
use Rattle.csv_rows.specs.Writers.{IsInRow, text_of}
use Rattle.csv_rows.proofs.rows.write_names.Given as goal

abbrev pub invariant-loop-i : goal.invariant-loop-i
invariant-loop-i l = IsInRow (text_of l.fn.writer) l.writer (take l.i (shown_names l.schema))
