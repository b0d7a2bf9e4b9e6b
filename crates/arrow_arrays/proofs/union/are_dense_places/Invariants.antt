use Rattle.std.proofs.Common.{◌≡◌, false}
use Rattle.arrow_spec.specs.Arrays.{id_place}
use Rattle.arrow_spec.specs.Faults.{some_row}
use Rattle.arrow_types.specs.KindOf.{kind_of}
use Rattle.arrow_arrays.specs.Heads.{ids_in, number_at, is_bad_place}
use Rattle.arrow_arrays.specs.Parts.{rows_each}
use Rattle.arrow_arrays.specs.PartsOf.{forest_of}
use Rattle.arrow_arrays.proofs.union.are_dense_places.Given as goal

abbrev pub invariant-loop-row : goal.invariant-loop-row
invariant-loop-row l = some_row (λ row. is_bad_place (rows_each (forest_of l.fields)) (id_place (ids_in (kind_of l.dtype)) (number_at l.types row)) (number_at l.offsets row)) l.row ≡ false
