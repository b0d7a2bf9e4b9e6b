use Rattle.std.proofs.Common.{◌≡◌, [], List, Option, ℕ, take}
use Rattle.arrow_spec.specs.Files.{ArrowTable}
use Rattle.ipc_io.specs.Outside.{SinkKept}
use Rattle.ipc_record_log.specs.Logs.{OnlyReads}
use Rattle.ipc_concat.specs.Below.{IsWriter}
use Rattle.ipc_tablelog.specs.TableLogs.{IsTableOf}
use Rattle.ipc_log_streams.specs.Streams.{HasPut}
use Rattle.ipc_log_streams.proofs.put.put_batches.Given as goal

abbrev pub invariant-loop-i : goal.invariant-loop-i
invariant-loop-i g l =
    let d = g.D.LogDisk in
    let w = g.W.Sink in
    record {
      kept : OnlyReads d.content d.images d.moment d.images_since d.faults d.wants d.references l.fn.log.log.disk l.log.log.disk;
      same : (l.log.log.spans.items ≡ l.fn.log.log.spans.items) × (l.log.log.end ≡ l.fn.log.log.end) × (l.log.log.is_failed ≡ l.fn.log.log.is_failed);
      schema : l.log.schema ≡ l.fn.log.schema;
      encoding : l.writer.encoding ≡ l.fn.writer.encoding;
      writer : IsWriter l.fn.log.schema l.fn.writer.encoding l.writer;
      put : (t : ArrowTable) (before : Option (List ℕ)) → IsTableOf (d.content l.fn.log.log.disk) l.fn.log.schema t → HasPut l.fn.writer.encoding before (w.written l.fn.sink) l.fn.writer [] → HasPut l.fn.writer.encoding before (w.written l.sink) l.writer (take l.i t.batches);
      sink : SinkKept w.faults w.wants w.references l.fn.sink l.sink;
    }
