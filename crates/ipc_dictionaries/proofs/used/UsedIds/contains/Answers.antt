use Rattle.std.proofs.Common.{ap, ◌∙◌, w64}
use Rattle.std.proofs.lemmas.Int.{to_z-of_z}
use Rattle.ipc_dictionaries.specs.Used.{used_by}
use Rattle.ipc_dictionaries.proofs.used.UsedIds.contains.Goals as goal

pub returns : goal.returns
returns c = c.contains.ensures ∙ ap (λ z. used_by c.args.self.now z) (to_z-of_z w64 c.args.id c.ranges.id)
