use Rattle.std.proofs.Common.{◌≡◌, ◌*◌, ◌^◌, ◌≤◌, take}
use Rattle.arrow_spec.specs.Files.{lengths_sum}
use Rattle.ipc_view.proofs.counts.lengths_sum.Given as goal

abbrev pub invariant-loop-buffer : goal.invariant-loop-buffer
invariant-loop-buffer l = record {
  sum : l.sum ≡ lengths_sum (take l.buffer-index l.buffers);
  small : l.sum ≤ l.buffer-index * 2 ^ 63;
}
