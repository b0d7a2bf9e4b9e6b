use Rattle.std.proofs.Common.{◌≡◌, suc, false}
use Rattle.arrow_spec.specs.Faults.{some_row}
use Rattle.view_types.specs.Views.{order_of}
use Rattle.ipc_view.specs.Tests.{has_fallen, is_below_zero, offset_place}
use Rattle.ipc_view.proofs.tests.offsets_fit.Given as goal

abbrev pub invariant-loop-j : goal.invariant-loop-j
invariant-loop-j l = record {
  above : some_row (is_below_zero l.offsets l.is_large (order_of l.is_big_endian)) (suc l.j) ≡ false;
  rise : some_row (has_fallen l.offsets l.is_large (order_of l.is_big_endian)) l.j ≡ false;
  low : l.low ≡ offset_place l.offsets l.is_large (order_of l.is_big_endian) l.j;
}
