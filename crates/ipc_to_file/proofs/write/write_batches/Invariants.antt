use Rattle.ipc_to_file.proofs.Batches.{AreWritten}
use Rattle.ipc_to_file.proofs.write.write_batches.Given as goal

abbrev pub invariant-loop-batch : goal.invariant-loop-batch
invariant-loop-batch g l = AreWritten g.W.Sink.written g.W.Sink.faults g.W.Sink.wants g.W.Sink.references l.fn.core l.core l.fn.sink l.sink l.batches l.batch-index l.rows
