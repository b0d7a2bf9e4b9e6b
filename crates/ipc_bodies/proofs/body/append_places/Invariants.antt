use Rattle.std.proofs.Common.{◌≡◌, ◌++◌, length, map, take, drop}
use Rattle.arrow_spec.specs.Sent.{placed, body_of}
use Rattle.ipc_bodies.proofs.body.append_places.Given as goal

abbrev pub invariant-loop-buffer : goal.invariant-loop-buffer
invariant-loop-buffer l = record {
  places : l.out.items ≡ l.initial.out.items ++ placed l.initial.at (map length (take l.buffer-index l.buffers));
  place : l.at ≡ body_of l.initial.at (map length (take l.buffer-index l.buffers));
  end : body_of l.at (map length (drop l.buffer-index l.buffers)) ≡ body_of l.initial.at (map length l.buffers);
}
