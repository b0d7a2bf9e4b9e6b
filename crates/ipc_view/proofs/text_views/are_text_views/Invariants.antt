use Rattle.std.proofs.Common.{◌≡◌, false}
use Rattle.arrow_spec.specs.Faults.{some_row}
use Rattle.view_types.specs.Tops.{top_in}
use Rattle.ipc_view.proofs.TextViews.{is_no_good_text}
use Rattle.ipc_view.proofs.text_views.are_text_views.Given as goal

abbrev pub invariant-loop-row : goal.invariant-loop-row
invariant-loop-row l = some_row (is_no_good_text (top_in l.parts)) l.row ≡ false
