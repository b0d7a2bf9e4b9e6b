use Rattle.std.proofs.Common.{◌≡◌, ◌&&◌, false}
use Rattle.std.specs.Prelude.{not}
use Rattle.arrow_spec.specs.Faults.{some_row}
use Rattle.arrow_buffers.specs.Rows.{is_valid}
use Rattle.arrow_buffers.specs.Views.{is_good_view, view_at}
use Rattle.arrow_buffers.proofs.view.are_good_views.Given as goal

abbrev pub invariant-loop-row : goal.invariant-loop-row
invariant-loop-row l = some_row (λ row. is_valid l.validity row && not (is_good_view l.buffers (view_at l.views row))) l.row ≡ false
