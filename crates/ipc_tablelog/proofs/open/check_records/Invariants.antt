use Rattle.std.proofs.Common.{◌≡◌}
use Rattle.ipc_record_log.specs.Logs.{OnlyReads}
use Rattle.ipc_log_records.specs.LogSchemas.{log_fields}
use Rattle.ipc_tablelog.specs.Opened.{AreOnes}
use Rattle.ipc_tablelog.proofs.open.check_records.Given as goal

abbrev pub invariant-loop-i : goal.invariant-loop-i
invariant-loop-i g l =
    let d = g.D.LogDisk in
    record {
      kept : OnlyReads d.content d.images d.moment d.images_since d.faults d.wants d.references l.fn.log.disk l.log.disk;
      same : (l.log.spans.items ≡ l.fn.log.spans.items) × (l.log.end ≡ l.fn.log.end) × (l.log.is_failed ≡ l.fn.log.is_failed);
      ones : AreOnes (d.content l.fn.log.disk) (log_fields l.schema) l.i;
    }
