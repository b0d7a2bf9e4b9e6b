use Rattle.std.proofs.Common.{◌≡◌, false}
use Rattle.arrow_spec.specs.Faults.{some_row}
use Rattle.view_types.specs.Tops.{top_in}
use Rattle.ipc_view.specs.Layouts.{is_bad_text_view}
use Rattle.ipc_view.proofs.views.are_view_texts.Given as goal

abbrev pub invariant-loop-row : goal.invariant-loop-row
invariant-loop-row l = some_row (is_bad_text_view (top_in l.parts)) l.row ≡ false
