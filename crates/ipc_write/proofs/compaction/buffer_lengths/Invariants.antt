use Rattle.std.proofs.Common.{◌≡◌, ◌*◌, ◌^◌, ◌≤◌, take, length}
use Rattle.std.specs.Prelude.{sum_by}
use Rattle.ipc_write.proofs.compaction.buffer_lengths.Given as goal

abbrev pub invariant-loop-buffer : goal.invariant-loop-buffer
invariant-loop-buffer l = record {
  sum : l.lengths ≡ sum_by length (take l.buffer-index l.buffers);
  near : l.lengths ≤ l.buffer-index * 2 ^ 64;
}
