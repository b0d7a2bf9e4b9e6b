use Rattle.std.proofs.Common.{◌≡◌, ◌<◌, [], true, false, length, take}
use Rattle.std.specs.List.{flat_map}
use Rattle.std.specs.Io.KnownBytes.{Appends}
use Rattle.ipc_write.specs.Below.{moved, NoneFalls}
use Rattle.ipc_messages.specs.Framed.{framed_text}
use Rattle.ipc_messages.proofs.framed_puts.put_framed.Given as goal

abbrev pub invariant-loop-message : goal.invariant-loop-message
invariant-loop-message g l = record {
  puts : Appends (g.W.Sink.written l.fn.sink) (g.W.Sink.written l.sink) (flat_map framed_text (take l.message-index l.messages))
      × NoneFalls (moved (g.W.Sink.written l.fn.sink) (g.W.Sink.written l.sink) (g.W.Sink.faults l.fn.sink) (g.W.Sink.faults l.sink) (g.W.Sink.wants l.fn.sink) (g.W.Sink.wants l.sink));
  none : l.has_begun ≡ false → flat_map framed_text (take l.message-index l.messages) ≡ [];
  some : l.has_begun ≡ true → 0 < length (flat_map framed_text (take l.message-index l.messages));
  references : g.W.Sink.references l.sink ≡ g.W.Sink.references l.fn.sink;
  scratch : length l.scratch ≡ length l.fn.scratch;
}
