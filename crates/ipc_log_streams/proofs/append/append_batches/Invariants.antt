use Rattle.std.proofs.Common.{◌≡◌, ◌≤◌, List, ℕ, false, map, take}
use Rattle.arrow_spec.specs.Files.{ArrowTable}
use Rattle.ipc_log_disk.specs.Crashes.{Elapses}
use Rattle.ipc_concat.specs.Below.{cells_of}
use Rattle.laws_logs.specs.Tables.{MeansFront, with_batches}
use Rattle.ipc_tablelog.specs.TableLogs.{IsTableOf}
use Rattle.ipc_log_streams.proofs.append.append_batches.Given as goal

-- the batches so far are on the disk, and each moment so far leaves some of them
abbrev pub invariant-loop-batch : goal.invariant-loop-batch
invariant-loop-batch g l =
    let d = g.D.LogDisk in
    let xs = map cells_of l.batches in
    record {
      ready : l.log.log.is_failed ≡ false;
      schema : l.log.schema ≡ l.fn.log.schema;
      time : Elapses (d.moment l.fn.log.log.disk) (d.moment l.log.log.disk) (d.images_since l.fn.log.log.disk) (d.images_since l.log.log.disk);
      later : d.faults l.fn.log.log.disk ≤ d.faults l.log.log.disk;
      held : (t : ArrowTable) → IsTableOf (d.content l.fn.log.log.disk) l.fn.log.schema t → IsTableOf (d.content l.log.log.disk) l.fn.log.schema (with_batches t (take l.batch-index xs));
      moments : (c : List ℕ) (t : ArrowTable) → IsTableOf (d.content l.fn.log.log.disk) l.fn.log.schema t → d.images_since l.log.log.disk (d.moment l.fn.log.log.disk) c → MeansFront t xs c;
    }
