use Rattle.std.proofs.Common.{◌≡◌, ◌-◌, ◌^◌, ◌<◌, length}
use Rattle.arrow_buffers.specs.Views.{view_rows}
use Rattle.ipc_write.specs.Compaction.{laid_anew}
use Rattle.ipc_write.specs.Laying.{all_laid}
use Rattle.ipc_write.proofs.compaction.lay_rows.Given as goal

abbrev pub invariant-loop-row : goal.invariant-loop-row
invariant-loop-row g l = record {
  laid : all_laid l.array l.row (view_rows l.array.views - l.row) l.laying.views.items l.laying.buffers.items l.laying.begun.items ≡ laid_anew l.array;
  few : length l.laying.buffers.items < 2 ^ 32;
}
