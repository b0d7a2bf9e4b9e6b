use Rattle.std.proofs.Common.{◌≡◌, ◌&&◌, false}
use Rattle.arrow_spec.specs.Faults.{some_row}
use Rattle.arrow_buffers.specs.Rows.{is_valid}
use Rattle.arrow_arrays.specs.Heads.{is_bad_key, number_at}
use Rattle.arrow_arrays.specs.KeysOf.{keys_in, key_validity_in}
use Rattle.arrow_arrays.proofs.dictionary.have_keys.Given as goal

abbrev pub invariant-loop-row : goal.invariant-loop-row
invariant-loop-row l = some_row (λ row. is_valid (key_validity_in l.keys) row && is_bad_key l.held (number_at (keys_in l.keys) row)) l.row ≡ false
