use Rattle.std.proofs.Common.{◌≡◌, ◌≤◌, ◌-◌, length, max, take}
use Rattle.std.specs.Io.KnownBytes.{Appends}
use Rattle.ipc_bodies.specs.Encodings.{text_of}
use Rattle.ipc_bodies.specs.Puts.{moved, NoneFalls}
use Rattle.ipc_bodies.proofs.sinks.put_bytes_as.Given as goal

abbrev pub invariant-loop-at : goal.invariant-loop-at
invariant-loop-at g l = record {
  within : l.at ≤ length l.bytes;
  puts : Appends (g.W.Sink.written l.fn.sink) (g.W.Sink.written l.sink) (text_of l.encoding (take l.at l.bytes))
      × NoneFalls (moved (g.W.Sink.written l.fn.sink) (g.W.Sink.written l.sink) (g.W.Sink.faults l.fn.sink) (g.W.Sink.faults l.sink) (g.W.Sink.wants l.fn.sink) (g.W.Sink.wants l.sink));
  references : g.W.Sink.references l.sink ≡ g.W.Sink.references l.fn.sink;
  scratch : length l.scratch ≡ length l.fn.scratch;
  longest : g.W.Sink.longest l.sink ≤ max (g.W.Sink.longest l.fn.sink) (length l.fn.scratch);
}

abbrev pub decreases-loop-at : goal.decreases-loop-at
decreases-loop-at g l = length l.initial.bytes - l.at
