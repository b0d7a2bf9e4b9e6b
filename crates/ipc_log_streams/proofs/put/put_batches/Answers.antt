use Rattle.std.proofs.Common.{◌∙◌, arith, ap, length, refl, sym}
use Rattle.ipc_io.proofs.Kept.{sink_kept_on}
use Rattle.ipc_tablelog.proofs.Below.{handed}
use Rattle.ipc_record_log.proofs.ReadOn.{reads_on}
use Rattle.ipc_tablelog.proofs.Opening.{nothing_read, same_on}
use Rattle.ipc_log_streams.proofs.Putting.{all_put, cause_before, put_as, stops_as, stops_before, table_on, writer_as}
use Rattle.ipc_log_streams.proofs.put.put_batches.Goals as goal

pub loop-i-init : goal.loop-i-init
loop-i-init g c = record {
  kept = nothing_read c.args.log.now.log.disk (g.met.D.LogDisk.counts_now c.args.log.now.log.disk) (g.met.D.LogDisk.only_now c.args.log.now.log.disk);
  same = (refl, refl, refl);
  schema = refl;
  encoding = refl;
  writer = c.requires.writer;
  put = λ t before h p. p;
  sink = record { faults = omega arith; wants = omega arith; references = refl };
}

pub put_batch-requires-clause-ready : goal.put_batch-requires-clause-ready
put_batch-requires-clause-ready g c = c.loop-i.invariant.same.2 ∙ c.requires.ready

pub put_batch-requires-clause-inside : goal.put_batch-requires-clause-inside
put_batch-requires-clause-inside g c = omega (arith, ap length c.loop-i.invariant.same.0, c.len-count.ensures.count, c.loop-i-test.true)

pub put_batch-requires-clause-writer : goal.put_batch-requires-clause-writer
put_batch-requires-clause-writer g c =
    let i = c.loop-i.invariant in
    writer_as _ _ _ _ c.loop-i.writer i.schema i.encoding i.writer

pub loop-i-preserved : goal.loop-i-preserved
loop-i-preserved g c =
    let i = c.loop-i.invariant in
    let k = c.in_ok-put_batch.ensures in
    record {
      kept = reads_on i.kept k.kept;
      same = same_on k.same i.same;
      schema = k.schema ∙ i.schema;
      encoding = k.encoding ∙ i.encoding;
      writer = writer_as _ _ _ _ c.put_batch.new.writer (sym i.schema) (sym i.encoding) k.writer;
      put = λ t before h p. put_as _ _ _ _ _ _ i.encoding (k.put t before (table_on _ _ _ _ t i.kept.content i.schema h) (put_as _ _ _ _ _ _ (sym i.encoding) (i.put t before h p)));
      sink = sink_kept_on i.sink k.sink;
    }

pub returns-in_err-put_batch-clause-refused : goal.returns-in_err-put_batch-clause-refused
returns-in_err-put_batch-clause-refused g c =
    let i = c.loop-i.invariant in
    let k = c.in_err-put_batch.ensures in
    handed _ c.from_residual.result c.in_err-put_batch.field-0.0 c.from_residual.ensures.1
    (λ t before h p. stops_before _ t _ before _ _ _ _ i.sink.wants (stops_as _ t _ _ before _ _ _ i.encoding (k.refused t before (table_on _ _ _ _ t i.kept.content i.schema h) (put_as _ _ _ _ _ _ (sym i.encoding) (i.put t before h p)))))

pub returns-in_err-put_batch-clause-cause : goal.returns-in_err-put_batch-clause-cause
returns-in_err-put_batch-clause-cause g c =
    let i = c.loop-i.invariant in
    handed _ c.from_residual.result c.in_err-put_batch.field-0.0 c.from_residual.ensures.1 (cause_before _ _ _ _ _ _ _ i.kept.faults i.sink.faults c.in_err-put_batch.ensures.cause)

pub returns-in_err-put_batch-clause-kept : goal.returns-in_err-put_batch-clause-kept
returns-in_err-put_batch-clause-kept g c = reads_on c.loop-i.invariant.kept c.in_err-put_batch.ensures.kept

pub returns-in_err-put_batch-clause-sink : goal.returns-in_err-put_batch-clause-sink
returns-in_err-put_batch-clause-sink g c = sink_kept_on c.loop-i.invariant.sink c.in_err-put_batch.ensures.sink

pub returns-clause-writer : goal.returns-clause-writer
returns-clause-writer g c = c.loop-i.invariant.writer

pub returns-clause-put : goal.returns-clause-put
returns-clause-put g c = λ t before h p. all_put _ before _ c.loop-i.writer t c.loop-i.i (omega (arith, c.loop-i-test.false, c.len-count.ensures.batches c.requires.ready t h)) (c.loop-i.invariant.put t before h p)

pub returns-clause-kept : goal.returns-clause-kept
returns-clause-kept g c = c.loop-i.invariant.kept

pub returns-clause-sink : goal.returns-clause-sink
returns-clause-sink g c = c.loop-i.invariant.sink
