use Rattle.std.proofs.Common.{◌≡◌, ◌<◌, [], true, false, length, take}
use Rattle.std.specs.List.{flat_map}
use Rattle.std.specs.Io.KnownBytes.{Appends}
use Rattle.ipc_write.specs.Below.{text_of, moved, NoneFalls}
use Rattle.ipc_messages.specs.Messages.{planned_text}
use Rattle.ipc_messages.proofs.puts.put_messages_as.Given as goal

abbrev pub invariant-loop-message : goal.invariant-loop-message
invariant-loop-message g l = record {
  puts : Appends (g.W.Sink.written l.fn.sink) (g.W.Sink.written l.sink) (flat_map (λ p. text_of l.encoding (planned_text p)) (take l.message-index l.messages))
      × NoneFalls (moved (g.W.Sink.written l.fn.sink) (g.W.Sink.written l.sink) (g.W.Sink.faults l.fn.sink) (g.W.Sink.faults l.sink) (g.W.Sink.wants l.fn.sink) (g.W.Sink.wants l.sink));
  none : l.has_begun ≡ false → flat_map (λ p. text_of l.encoding (planned_text p)) (take l.message-index l.messages) ≡ [];
  some : l.has_begun ≡ true → 0 < length (flat_map (λ p. text_of l.encoding (planned_text p)) (take l.message-index l.messages));
  references : g.W.Sink.references l.sink ≡ g.W.Sink.references l.fn.sink;
  scratch : length l.scratch ≡ length l.fn.scratch;
}
