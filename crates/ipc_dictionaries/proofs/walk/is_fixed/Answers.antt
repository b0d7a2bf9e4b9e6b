use Rattle.std.proofs.Common.{◌||◌, ap, sym, ◌∙◌, w64}
use Rattle.std.proofs.lemmas.Int.{to_z-of_z}
use Rattle.ipc_dictionaries.specs.Used.{used_by}
use Rattle.ipc_dictionaries.proofs.walk.is_fixed.Goals as goal

pub returns-else-tracker : goal.returns-else-tracker
returns-else-tracker c =
    let u = c.args.used.now in
    c.contains.ensures ∙ ap (used_by u) (to_z-of_z w64 c.args.id c.ranges.id) ∙ sym (ap (λ b. b || used_by u c.args.id) c.if-tracker.false)
