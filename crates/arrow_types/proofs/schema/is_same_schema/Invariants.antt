use Rattle.std.proofs.Common.{◌≡◌, take}
use Rattle.arrow_types.proofs.schema.is_same_schema.Given as goal

abbrev pub invariant-loop-i : goal.invariant-loop-i
invariant-loop-i l = take l.i l.a ≡ take l.i l.b
