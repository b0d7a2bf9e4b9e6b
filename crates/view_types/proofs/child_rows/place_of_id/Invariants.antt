use Rattle.std.proofs.Common.{◌≡◌, drop}
use Rattle.arrow_spec.specs.Arrays.{id_place}
use Rattle.view_types.proofs.Ids.{behind}
use Rattle.view_types.proofs.child_rows.place_of_id.Given as goal

abbrev pub invariant-loop-i : goal.invariant-loop-i
invariant-loop-i l = id_place l.ids l.id ≡ behind l.i (id_place (drop l.i l.ids) l.id)
