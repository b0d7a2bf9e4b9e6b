use Rattle.std.proofs.Common.{◌≡◌, take}
use Rattle.arrow_arrays.specs.Parts.{cells_in}
use Rattle.arrow_arrays.specs.PartsOf.{parts_of}
use Rattle.row_filters.specs.Filters.{marks_of}
use Rattle.row_filters.proofs.marks.each_mark.Given as goal

abbrev pub invariant-loop-row : goal.invariant-loop-row
invariant-loop-row l = l.marks.items ≡ take l.row (marks_of l.filter (cells_in (parts_of l.array)))
