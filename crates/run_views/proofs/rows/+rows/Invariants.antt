use Rattle.std.proofs.Common.{◌+◌, ◌*◌}
use Rattle.view_types.specs.Views.{view_size}
use Rattle.run_views.proofs.rows.+rows.Given as goal

abbrev pub decreases-show_struct : goal.decreases-show_struct
decreases-show_struct l = 3 * view_size l.view.now

abbrev pub decreases-show_span : goal.decreases-show_span
decreases-show_span l = 3 * view_size l.view.now

abbrev pub decreases-show_row : goal.decreases-show_row
decreases-show_row l = 3 * view_size l.view.now + 1

abbrev pub decreases-show_rows : goal.decreases-show_rows
decreases-show_rows l = 3 * view_size l.view.now + 2
