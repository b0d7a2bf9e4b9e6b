use Rattle.std.proofs.Common.{◌≡◌, drop}
use Rattle.arrow_spec.specs.Schema.{is_id_behind}
use Rattle.arrow_types.proofs.union_ids.is_among.Given as goal

abbrev pub invariant-loop-other : goal.invariant-loop-other
invariant-loop-other l = is_id_behind (drop l.other-index l.ids) l.id ≡ is_id_behind l.ids l.id
