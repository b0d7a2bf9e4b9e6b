use Rattle.std.proofs.Common.{◌≡◌, ◌++◌, take}
use Rattle.ipc_write_arrays.proofs.layouts.add_held.Given as goal

abbrev pub invariant-loop-buffer : goal.invariant-loop-buffer
invariant-loop-buffer l = l.buffers.items ≡ l.initial.buffers.items ++ take l.buffer-index l.held
