use Rattle.std.proofs.Common.{◌≡◌, take, map}
use Rattle.arrow_types.specs.KindOf.{child_of}
use Rattle.same_fields.specs.Bare.{bare_child}
use Rattle.same_fields.proofs.bare.+bare.Given as goal

abbrev pub invariant-are_same_fields-loop-i : goal.invariant-are_same_fields-loop-i
invariant-are_same_fields-loop-i l = map (λ f. bare_child (child_of f)) (take l.i l.a) ≡ map (λ f. bare_child (child_of f)) (take l.i l.b)
