use Rattle.view_types.proofs.Spans.{spans_are_cells}
use Rattle.view_types.proofs.child_rows.spans_are_cells.Goals as goal

pub returns : goal.returns
returns c = spans_are_cells
