use Rattle.std.proofs.Common.{◌≡◌, ◌≤◌, length, take}
use Rattle.std.specs.Vec.{vec_capacity, vec_len}
use Rattle.arrow_spec.specs.Flat.{little}
use Rattle.arrow_arrays.specs.LeafParts.{as_bytes, numbers}
use Rattle.arrow_arrays.specs.Parts.{cells_in, leaf}
use Rattle.row_filters.specs.Filters.{marks_of}
use Rattle.row_filters.proofs.marks.valid_marks.Given as goal

abbrev pub invariant-loop-row : goal.invariant-loop-row
invariant-loop-row g l = record {
  marks : l.marks.items ≡ take l.row (marks_of l.filter (cells_in (leaf (numbers (as_bytes (g.T.NativeType.written little) l.array)))));
  count : vec_len l.marks ≡ l.row;
  room : length l.array.values ≤ vec_capacity l.marks;
}
