use Rattle.std.proofs.Common.{◌≡◌, ◌&&◌, false}
use Rattle.arrow_spec.specs.Faults.{some_row}
use Rattle.arrow_buffers.specs.Rows.{is_valid}
use Rattle.arrow_buffers.specs.Views.{is_no_text_view, view_at}
use Rattle.arrow_buffers.proofs.view.are_view_texts.Given as goal

abbrev pub invariant-loop-row : goal.invariant-loop-row
invariant-loop-row l = some_row (λ row. is_valid l.validity row && is_no_text_view l.buffers (view_at l.views row)) l.row ≡ false
