use Rattle.std.proofs.Common.{◌≡◌, take}
use Rattle.arrow_spec.specs.Flat.{little}
use Rattle.arrow_arrays.specs.LeafParts.{as_bytes, numbers}
use Rattle.arrow_arrays.specs.Parts.{cells_in, leaf}
use Rattle.row_filters.specs.Filters.{marks_of}
use Rattle.row_filters.proofs.marks.each_number_mark.Given as goal

abbrev pub invariant-loop-row : goal.invariant-loop-row
invariant-loop-row g l = l.marks.items ≡ take l.row (marks_of l.filter (cells_in (leaf (numbers (as_bytes (g.T.NativeType.written little) l.array)))))
