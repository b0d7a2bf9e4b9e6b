use Rattle.std.proofs.Common.{◌≡◌, ◌&&◌, false, map}
use Rattle.std.specs.Prelude.{not}
use Rattle.std.specs.Str.{is_utf8}
use Rattle.arrow_spec.specs.Faults.{some_row}
use Rattle.arrow_buffers.specs.Rows.{is_valid}
use Rattle.arrow_buffers.specs.Variable.{row_bytes}
use Rattle.arrow_buffers.proofs.texts.are_row_texts.Given as goal

abbrev pub invariant-loop-row : goal.invariant-loop-row
invariant-loop-row g l = some_row (λ row. is_valid l.validity row && not (is_utf8 (row_bytes (map g.O.Offset.number l.offsets) l.values row))) l.row ≡ false
