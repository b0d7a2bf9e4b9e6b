use Rattle.std.proofs.Common.{◌≡◌, ◌++◌, ◌∷◌, [], reverse, ap, rules}
use Rattle.ipc_log_disk.specs.Histories.{LogState}
use Rattle.ipc_log_disk.specs.declared.change.Change.TheVariants.{Synced}
use Rattle.ipc_log_disk.proofs.Moments.{newest, one_later, synced_since}
use Rattle.ipc_log_disk.proofs.memory.MemoryLogDiskLogDisk.sync.Goals as goal

pub returns-clause-since : goal.returns-clause-since
returns-clause-since c =
    let more : c.push.new.self.items ≡ c.self.inside.changes.items ++ Synced ∷ [] = search rules in
    let is = newest c.self.inside.changes.items c.push.new.self.items Synced c.args.self.now.changes more (ap (λ (s : LogState). s.changes) c.self.view_is) in
    synced_since c.args.self.now.first c.self.inside.first.items c.args.self.now.changes (reverse c.push.new.self.items) (ap (λ (s : LogState). s.first) c.self.view_is) is

pub returns-clause-time : goal.returns-clause-time
returns-clause-time c =
    let more : c.push.new.self.items ≡ c.self.inside.changes.items ++ Synced ∷ [] = search rules in
    let is = newest c.self.inside.changes.items c.push.new.self.items Synced c.args.self.now.changes more (ap (λ (s : LogState). s.changes) c.self.view_is) in
    one_later c.args.self.now.first c.self.inside.first.items c.args.self.now.changes (reverse c.push.new.self.items) (ap (λ (s : LogState). s.first) c.self.view_is) Synced is
