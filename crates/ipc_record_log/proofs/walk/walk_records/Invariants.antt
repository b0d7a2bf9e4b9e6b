use Rattle.std.proofs.Common.{◌≡◌, ◌-◌, ◌≤◌, List, ℕ, Some}
use Rattle.ipc_record_log.specs.Logs.{OnlyReads}
use Rattle.ipc_record_log.proofs.Walking.{SoFar}
use Rattle.ipc_record_log.proofs.walk.walk_records.Given as goal

abbrev pub invariant-loop-spans : goal.invariant-loop-spans
invariant-loop-spans g l =
    let d = g.D.LogDisk in
    record {
      kept : OnlyReads d.content d.images d.moment d.images_since d.faults d.wants d.references l.fn.disk l.disk;
      inside : l.at ≤ l.size;
      so_far : (b : List ℕ) → d.content l.fn.disk ≡ Some b → SoFar b l.spans.items l.at;
    }

abbrev pub decreases-loop-spans : goal.decreases-loop-spans
decreases-loop-spans g l = l.size - l.at
