use Rattle.std.proofs.Common.{◌≡◌, ◌++◌, List, ℕ, false, map, take, Some}
use Rattle.ipc_log_disk.specs.Crashes.{Elapses}
use Rattle.ipc_record_log.specs.Logs.{Holds}
use Rattle.ipc_record_log.specs.Records.{HasFront, records_in}
use Rattle.ipc_record_log.proofs.record_log.append_all.Given as goal

-- the records so far are on the disk, and each moment so far leaves some of them
abbrev pub invariant-loop-bytes : goal.invariant-loop-bytes
invariant-loop-bytes g l =
    let d = g.D.LogDisk in
    let so_far = take l.bytes-index (map (λ v. v.items) l.records) in
    record {
      ready : l.log.is_failed ≡ false;
      time : Elapses (d.moment l.fn.log.disk) (d.moment l.log.disk) (d.images_since l.fn.log.disk) (d.images_since l.log.disk);
      held : (b : List ℕ) → d.content l.fn.log.disk ≡ Some b → Holds (d.content l.log.disk) (d.images l.log.disk) (records_in b ++ so_far);
      moments : (b c : List ℕ) → d.content l.fn.log.disk ≡ Some b → d.images_since l.log.disk (d.moment l.fn.log.disk) c → HasFront (records_in b) so_far c;
    }
