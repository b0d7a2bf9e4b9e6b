use Rattle.std.proofs.Common.{length, ap}
use Rattle.ipc_log_disk.specs.Histories.{LogState}
use Rattle.ipc_log_disk.proofs.Noted.{notes_since, notes_time}
use Rattle.ipc_log_disk.proofs.memory.MemoryLogDiskLogDisk.write_at.Goals as goal

pub returns-else-eq-clause-since : goal.returns-else-eq-clause-since
returns-else-eq-clause-since c =
    notes_since c.args.self.now.first c.self.inside.first.items c.args.self.now.changes c.self.inside.changes.items c.write_noted-result.new.changes.items c.self.inside.disk.source.bytes c.write_noted-result.new.disk.source.bytes c.args.at (length c.args.bytes.now)
    (ap (λ (s : LogState). s.first) c.self.view_is) (ap (λ (s : LogState). s.changes) c.self.view_is) c.write_noted-result.result c.write_noted-result.ensures.noted c.requires.within

pub returns-else-eq-clause-time : goal.returns-else-eq-clause-time
returns-else-eq-clause-time c =
    notes_time c.args.self.now.first c.self.inside.first.items c.args.self.now.changes c.self.inside.changes.items c.write_noted-result.new.changes.items c.self.inside.disk.source.bytes c.write_noted-result.new.disk.source.bytes c.args.at (length c.args.bytes.now)
    (ap (λ (s : LogState). s.first) c.self.view_is) (ap (λ (s : LogState). s.changes) c.self.view_is) c.write_noted-result.result c.write_noted-result.ensures.noted
