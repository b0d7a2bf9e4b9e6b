use Rattle.std.proofs.Common.{◌≡◌, false}
use Rattle.arrow_spec.specs.Arrays.{id_place}
use Rattle.arrow_spec.specs.Faults.{some_row, is_no_id}
use Rattle.arrow_types.specs.KindOf.{kind_of}
use Rattle.arrow_arrays.specs.Heads.{ids_in, number_at}
use Rattle.arrow_arrays.proofs.union.are_types.Given as goal

abbrev pub invariant-loop-row : goal.invariant-loop-row
invariant-loop-row l = some_row (λ row. is_no_id (id_place (ids_in (kind_of l.dtype)) (number_at l.types row))) l.row ≡ false
