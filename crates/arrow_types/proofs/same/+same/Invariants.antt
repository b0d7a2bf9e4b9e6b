use Rattle.std.proofs.Common.{◌≡◌, take, map}
use Rattle.arrow_types.specs.KindOf.{child_of}
use Rattle.arrow_types.proofs.same.+same.Given as goal

abbrev pub invariant-are_same_fields-loop-i : goal.invariant-are_same_fields-loop-i
invariant-are_same_fields-loop-i l = map child_of (take l.i l.a) ≡ map child_of (take l.i l.b)
