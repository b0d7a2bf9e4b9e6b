use Rattle.std.proofs.Common.{◌≡◌, take}
use Rattle.std.specs.List.{flat_map}
use Rattle.arrow_spec.specs.Sent.{buffer_bytes}
use Rattle.ipc_write.proofs.metadata.buffers_bytes.Given as goal

abbrev pub invariant-loop-buffer : goal.invariant-loop-buffer
invariant-loop-buffer l = l.out.items ≡ flat_map buffer_bytes (take l.buffer-index l.buffers)
