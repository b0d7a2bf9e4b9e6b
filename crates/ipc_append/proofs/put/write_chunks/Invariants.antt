use Rattle.std.proofs.Common.{◌≡◌}
use Rattle.laws_sent.specs.Below.{moved}
use Rattle.ipc_append.proofs.PutSteps.{AreFront}
use Rattle.ipc_append.proofs.put.write_chunks.Given as goal

abbrev pub invariant-loop-chunk : goal.invariant-loop-chunk
invariant-loop-chunk g l = AreFront (moved (g.W.Sink.written l.fn.writer.sink) (g.W.Sink.written l.writer.sink) (g.W.Sink.faults l.fn.writer.sink) (g.W.Sink.faults l.writer.sink) (g.W.Sink.wants l.fn.writer.sink) (g.W.Sink.wants l.writer.sink)) l.fn.writer.core l.writer.core l.chunk-index l.chunks
    × (g.W.Sink.references l.writer.sink ≡ g.W.Sink.references l.fn.writer.sink)
