use Rattle.std.proofs.Common.{◌≡◌, drop}
use Rattle.arrow_spec.specs.Arrays.{id_place}
use Rattle.arrow_types.specs.KindOf.{ids_of}
use Rattle.arrow_arrays.proofs.UnionPlaces.{behind}
use Rattle.arrow_arrays.proofs.union_types.place_of_id.Given as goal

abbrev pub invariant-loop-i : goal.invariant-loop-i
invariant-loop-i l = id_place (ids_of l.ids l.children) l.id ≡ behind l.i (id_place (drop l.i (ids_of l.ids l.children)) l.id)
