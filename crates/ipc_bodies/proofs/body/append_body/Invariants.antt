use Rattle.std.proofs.Common.{◌≡◌, ◌++◌, length, take}
use Rattle.arrow_spec.specs.Framing.{body_bytes}
use Rattle.ipc_bodies.proofs.body.append_body.Given as goal

abbrev pub invariant-loop-buffer : goal.invariant-loop-buffer
invariant-loop-buffer l = l.out.items ≡ l.initial.out.items ++ body_bytes (length l.initial.out.items) (take l.buffer-index l.buffers)
