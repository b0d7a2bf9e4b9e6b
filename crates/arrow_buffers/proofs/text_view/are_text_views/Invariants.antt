use Rattle.std.proofs.Common.{◌≡◌, ◌&&◌, false}
use Rattle.std.specs.Prelude.{not}
use Rattle.arrow_spec.specs.Faults.{some_row}
use Rattle.arrow_buffers.specs.Rows.{is_valid}
use Rattle.arrow_buffers.specs.Views.{is_text_view, view_at}
use Rattle.arrow_buffers.proofs.text_view.are_text_views.Given as goal

abbrev pub invariant-loop-row : goal.invariant-loop-row
invariant-loop-row l = some_row (λ row. is_valid l.validity row && not (is_text_view l.buffers (view_at l.views row))) l.row ≡ false
