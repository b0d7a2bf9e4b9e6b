use Rattle.std.proofs.Common.{⊎_elim}
use Rattle.ipc_record_log.proofs.writes.write_synced.Goals as goal

pub returns-clause-since : goal.returns-clause-since
returns-clause-since g c =
    let begun = g.D.LogDisk.moment c.args.disk.now in
    let written = c.write_at.ensures in
    λ x since. ⊎_elim
    (λ before. written.since x before)
    (λ now. written.since x (g.met.D.LogDisk.counts_now c.write_at.new.self begun x written.time.later (c.sync.ensures.since x now)))
    ((c.sync.ensures.time.exact begun x written.time.later).0 since)
