use Rattle.std.proofs.Common.{◌≡◌, List, ℕ, length, reverse, true, take, ◌∙◌, ap, subst, sym}
use Rattle.std.proofs.lemmas.Result.{IfOk-weaker}
use Rattle.ipc_log_disk.specs.Histories.{LogState, crashed_after, images_after, is_history, oldest}
use Rattle.ipc_log_disk.specs.declared.change.Change.{Change}
use Rattle.ipc_log_disk.proofs.Crashing.{crashed_image, crashed_long, disk_left, left_is}
use Rattle.ipc_log_disk.proofs.memory.MemoryLogDisk.crashed.Goals as goal

pub returns-clause-disk : goal.returns-clause-disk
returns-clause-disk c =
    let now = c.args.self.now in
    let left : c.in_ok-left.left.items ≡ crashed_after c.args.fill c.args.size now.first (oldest c.args.count now.changes) =
    left_is c.self.inside.changes.items (take c.args.count c.deref.result.now) now.changes c.args.count c.args.fill c.args.size now.first c.in_ok-left.left.items (ap (take c.args.count) c.deref.ensures.value) c.requires (ap (λ (s : LogState). s.changes) c.self.view_is) (c.in_ok-left.ensures ∙ ap (λ (b : List ℕ). crashed_after c.args.fill c.args.size b (reverse (take c.args.count c.deref.result.now))) (c.deref-2.ensures.value ∙ ap (λ (s : LogState). s.first) c.self.view_is)) in
    disk_left c.new-3.result c.new-disk.result c.in_ok-left.left.items c.new.result.items c.new-2.result.items _ c.new-disk.ensures c.new.ensures.items c.new-2.ensures.items left c.new-3.ensures

pub returns-clause-image : goal.returns-clause-image
returns-clause-image c =
    let now = c.args.self.now in
    IfOk-weaker c.new-3.result _ _ (λ d is. subst (λ (b : List ℕ). images_after now.first (oldest c.args.count now.changes) b) (sym (ap (λ (s : LogState). s.first) is)) (crashed_image c.args.fill c.args.size now.first (oldest c.args.count now.changes))) (returns-clause-disk c)

pub returns-clause-length : goal.returns-clause-length
returns-clause-length c =
    let now = c.args.self.now in
    let first = ap (λ (s : LogState). s.first) c.self.view_is in
    let changes = ap (λ (s : LogState). s.changes) c.self.view_is in
    let history : is_history now.first now.changes ≡ true = subst (λ (b : List ℕ). is_history b now.changes ≡ true) first (subst (λ (l : List Change). is_history c.self.inside.first.items l ≡ true) changes c.self.invariant.1) in
    IfOk-weaker c.new-3.result _ _ (λ d is may. ap (λ (s : LogState). length s.first) is ∙ crashed_long c.args.fill c.args.size c.args.count now.first now.changes history may) (returns-clause-disk c)
