use Rattle.std.proofs.Common.{◌≡◌, List, [], map}
use Rattle.std.specs.Vec.Iter.{into_iter_items}
use Rattle.arrow_spec.specs.Kinds.{Use}
use Rattle.arrow_spec.specs.Schema.{uses_agree}
use Rattle.ipc_fields.specs.Uses.{use_in}
use Rattle.ipc_fields.specs.Latest.{Holds}
use Rattle.ipc_fields.proofs.agree.check_uses.Given as goal

abbrev pub invariant-loop-found : goal.invariant-loop-found
invariant-loop-found l = (earlier : List Use) × (Holds l.latest earlier) × (uses_agree earlier (map use_in (into_iter_items l.found-iterator)) ≡ uses_agree [] (map use_in l.fn.uses.items))
