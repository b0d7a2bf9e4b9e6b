use Rattle.std.proofs.Common.{◌≡◌, ◌^◌, ◌<◌, length, map, drop}
use Rattle.arrow_spec.specs.Sent.{body_of}
use Rattle.ipc_bodies.proofs.body.end_from.Given as goal

abbrev pub invariant-loop-buffer : goal.invariant-loop-buffer
invariant-loop-buffer l = record {
  end : body_of l.at (map length (drop l.buffer-index l.buffers)) ≡ body_of l.initial.at (map length l.buffers);
  near : l.at < 2 ^ 63;
}
