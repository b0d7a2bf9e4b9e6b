use Rattle.std.proofs.Common.{◌≡◌, false}
use Rattle.arrow_spec.specs.Faults.{some_row}
use Rattle.view_types.specs.Tops.{top_in}
use Rattle.view_types.specs.Views.{rows_each, views}
use Rattle.ipc_view.specs.Unions.{is_misplaced, is_untyped}
use Rattle.ipc_view.proofs.unions.check_unions.Given as goal

abbrev pub invariant-loop-row : goal.invariant-loop-row
invariant-loop-row l = record {
  typed : some_row (is_untyped (top_in l.parts)) l.row ≡ false;
  placed : some_row (is_misplaced (top_in l.parts) l.mode (rows_each (views l.children))) l.row ≡ false;
}
