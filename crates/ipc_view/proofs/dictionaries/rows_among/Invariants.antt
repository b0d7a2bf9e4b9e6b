use Rattle.std.proofs.Common.{◌≡◌, ◌≤◌, ◌*◌, sum_by, take}
use Rattle.view_types.specs.Views.{rows_of}
use Rattle.ipc_view.proofs.dictionaries.rows_among.Given as goal

abbrev pub invariant-loop-part : goal.invariant-loop-part
invariant-loop-part l = record {
  so_far : l.rows ≡ sum_by rows_of (take l.part-index l.parts);
  few : l.rows ≤ l.part-index * 18446744073709551616;
}
