use Rattle.std.proofs.Common.{◌≡◌, take}
use Rattle.arrow_buffers.proofs.view.clone_buffers.Given as goal

abbrev pub invariant-loop-buffer : goal.invariant-loop-buffer
invariant-loop-buffer l = l.copies.items ≡ take l.buffer-index l.buffers
