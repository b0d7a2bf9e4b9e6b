use Rattle.std.proofs.Common.{◌≤◌, arith, length}
use Rattle.ipc_append.proofs.Handed.{handed}
use Rattle.ipc_to_file.specs.Writing.{WritesAll}
use Rattle.ipc_to_file.proofs.Batches.{all_rows, all_written, none_written, one_stopped, one_written}
use Rattle.ipc_to_file.proofs.Puts.{sink_since}
use Rattle.ipc_to_file.proofs.write.write_batches.Goals as goal

pub loop-batch-init : goal.loop-batch-init
loop-batch-init g c = none_written _ _ _ _ _ _ c.args.batches.now

pub loop-batch-preserved : goal.loop-batch-preserved
loop-batch-preserved g c =
    one_written _ _ _ _ _ _ _ _ _ _ c.args.batches.now c.loop-batch.batch-index c.loop-batch.rows c.batch-item.result c.loop-batch-test.true c.batch-item.is c.loop-batch.invariant c.in_ok-count.count c.in_ok-count.ensures.rows (omega arith) c.in_ok-count.ensures.going c.in_ok-count.ensures.sink

pub returns-in_err-count-clause-writes : goal.returns-in_err-count-clause-writes
returns-in_err-count-clause-writes g c = λ m us start is all.
    handed (λ r. WritesAll r m us c.write_batch.new.core start (g.W.Sink.written c.write_batch.new.sink) c.args.batches.now (g.W.Sink.faults c.args.sink.now) (g.W.Sink.faults c.write_batch.new.sink)) c.from_residual.result c.in_err-count.field-0.0 c.from_residual.ensures.1
    (one_stopped g.W.Sink.written g.W.Sink.faults g.W.Sink.wants g.W.Sink.references _ _ c.loop-batch.core _ _ _ c.args.batches.now c.loop-batch.batch-index c.loop-batch.rows c.batch-item.result c.loop-batch-test.true c.batch-item.is c.loop-batch.invariant _ c.in_err-count.ensures.stops m us start is all)

pub returns-in_err-count-clause-sink : goal.returns-in_err-count-clause-sink
returns-in_err-count-clause-sink g c = sink_since _ _ _ _ _ _ c.loop-batch.invariant.kept c.in_err-count.ensures.sink

pub returns-clause-rows : goal.returns-clause-rows
returns-clause-rows g c = let done : length c.args.batches.now ≤ c.loop-batch.batch-index = omega arith in all_rows _ _ _ _ _ _ _ _ c.args.batches.now _ _ done c.loop-batch.invariant

pub returns-clause-writes : goal.returns-clause-writes
returns-clause-writes g c = let done : length c.args.batches.now ≤ c.loop-batch.batch-index = omega arith in all_written _ _ _ _ _ _ _ _ c.args.batches.now _ _ done c.loop-batch.invariant

pub returns-clause-sink : goal.returns-clause-sink
returns-clause-sink g c = c.loop-batch.invariant.kept
