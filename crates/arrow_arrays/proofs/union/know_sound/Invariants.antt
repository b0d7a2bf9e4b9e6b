use Rattle.std.proofs.Common.{◌≡◌, take, None}
use Rattle.arrow_arrays.specs.Parts.{fault_each}
use Rattle.arrow_arrays.specs.PartsOf.{forest_of}
use Rattle.arrow_arrays.proofs.union.know_sound.Given as goal

abbrev pub invariant-loop-field : goal.invariant-loop-field
invariant-loop-field l = fault_each (forest_of (take l.field-index l.fields)) ≡ None
