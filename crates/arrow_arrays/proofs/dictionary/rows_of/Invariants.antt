use Rattle.std.proofs.Common.{◌≡◌, ◌≤◌, ◌*◌, take}
use Rattle.std.specs.List.{sum}
use Rattle.arrow_arrays.specs.Parts.{rows_each}
use Rattle.arrow_arrays.specs.PartsOf.{forest_of}
use Rattle.arrow_arrays.proofs.dictionary.rows_of.Given as goal

abbrev pub invariant-loop-part : goal.invariant-loop-part
invariant-loop-part l = (l.rows ≡ sum (take l.part-index (rows_each (forest_of l.parts)))) × (l.rows ≤ l.part-index * 18446744073709551615)
