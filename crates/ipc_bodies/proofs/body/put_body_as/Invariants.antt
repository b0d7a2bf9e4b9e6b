use Rattle.std.proofs.Common.{◌≡◌, ◌≤◌, length, max, take}
use Rattle.std.specs.Io.KnownBytes.{Appends}
use Rattle.arrow_spec.specs.Framing.{body_bytes}
use Rattle.ipc_bodies.specs.Encodings.{text_of}
use Rattle.ipc_bodies.specs.Puts.{moved, NoneFalls}
use Rattle.ipc_bodies.proofs.body.put_body_as.Given as goal

abbrev pub invariant-loop-buffer : goal.invariant-loop-buffer
invariant-loop-buffer g l = record {
  puts : Appends (g.W.Sink.written l.fn.sink) (g.W.Sink.written l.sink) (text_of l.encoding (body_bytes 0 (take l.buffer-index l.buffers)))
      × NoneFalls (moved (g.W.Sink.written l.fn.sink) (g.W.Sink.written l.sink) (g.W.Sink.faults l.fn.sink) (g.W.Sink.faults l.sink) (g.W.Sink.wants l.fn.sink) (g.W.Sink.wants l.sink));
  references : g.W.Sink.references l.sink ≡ g.W.Sink.references l.fn.sink;
  scratch : length l.scratch ≡ length l.fn.scratch;
  longest : g.W.Sink.longest l.sink ≤ max (g.W.Sink.longest l.fn.sink) (length l.fn.scratch);
}
