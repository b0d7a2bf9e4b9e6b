use Rattle.std.proofs.Common.{◌-◌, ap, ◌∙◌}
use Rattle.ipc_tablelog.proofs.Logs.{batch_count}
use Rattle.ipc_tablelog.proofs.table_log.TableLog.len.Goals as goal

pub returns-clause-batches : goal.returns-clause-batches
returns-clause-batches g c = λ ready t h.
    let l = c.args.self.now.log in
    batch_count (g.D.LogDisk.content l.disk) (g.D.LogDisk.images l.disk) c.args.self.now.schema t l.spans.items l.end _ h (λ b told. l.ready ready b told) (c.saturating_sub.ensures ∙ ap (λ n. n - 1) c.len.ensures)
