use Rattle.std.proofs.Common.{◌≡◌, take}
use Rattle.array_filter.proofs.leaves.clone_buffers.Given as goal

abbrev pub invariant-loop-buffer : goal.invariant-loop-buffer
invariant-loop-buffer l = l.clones.items ≡ take l.buffer-index l.buffers
