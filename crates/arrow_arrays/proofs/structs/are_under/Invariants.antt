use Rattle.std.proofs.Common.{◌≡◌, drop}
use Rattle.arrow_types.specs.KindOf.{fields_of}
use Rattle.arrow_arrays.specs.Heads.{are_of}
use Rattle.arrow_arrays.specs.Parts.{kinds_each}
use Rattle.arrow_arrays.specs.PartsOf.{forest_of}
use Rattle.arrow_arrays.proofs.structs.are_under.Given as goal

abbrev pub invariant-loop-i : goal.invariant-loop-i
invariant-loop-i l = are_of (fields_of (drop l.i l.fields)) (kinds_each (forest_of (drop l.i l.values))) ≡ are_of (fields_of l.fields) (kinds_each (forest_of l.values))
