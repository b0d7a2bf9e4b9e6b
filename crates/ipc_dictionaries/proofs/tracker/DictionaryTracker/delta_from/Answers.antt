use Rattle.std.proofs.Common.{ap, ◌∙◌, w64}
use Rattle.std.proofs.lemmas.Int.{to_z-of_z}
use Rattle.arrow_arrays.specs.Heads.{values_kind}
use Rattle.arrow_arrays.specs.Parts.{kind_in}
use Rattle.ipc_dictionaries.specs.Standing.{delta_start, standing}
use Rattle.ipc_dictionaries.specs.Tracker.{held_by, values_in}
use Rattle.ipc_dictionaries.proofs.tracker.DictionaryTracker.delta_from.Goals as goal

pub returns : goal.returns
returns c =
    let t = c.args.self.now in
    let d = c.dictionary_of.result.now in
    c.delta_start.ensures ∙ ap (delta_start t.deltas) (c.standing.ensures ∙ ap (λ z. standing (held_by t z) (values_kind d.head.kind) d.children) (to_z-of_z w64 c.args.id c.ranges.id))
    ∙ ap (λ p. delta_start t.deltas (standing (held_by t c.args.id) (values_kind (kind_in p)) (values_in p))) c.dictionary_of.ensures
