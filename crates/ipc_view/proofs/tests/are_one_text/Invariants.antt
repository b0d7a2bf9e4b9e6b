use Rattle.std.proofs.Common.{ℕ, ◌-◌, ◌<◌}
use Rattle.std.specs.Str.{IsCharBoundary}
use Rattle.view_types.specs.Views.{order_of}
use Rattle.ipc_view.specs.Tests.{offset_place}
use Rattle.ipc_view.proofs.tests.are_one_text.Given as goal

abbrev pub invariant-loop-row : goal.invariant-loop-row
invariant-loop-row l = (k : ℕ) → k < l.row → IsCharBoundary l.used (offset_place l.offsets l.is_large (order_of l.is_big_endian) k - l.first)
