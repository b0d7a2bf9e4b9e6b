use Rattle.std.proofs.Common.{◌≡◌, None, take}
use Rattle.arrow_arrays.specs.Parts.{fault_each}
use Rattle.arrow_arrays.specs.PartsOf.{forest_of}
use Rattle.dictionary_places.specs.Places.{places_from}
use Rattle.dictionary_places.proofs.rows.places_of.Given as goal

abbrev pub invariant-loop-i : goal.invariant-loop-i
invariant-loop-i l = record {
  are : l.places.items ≡ places_from 0 (take l.i l.parts);
  sound : fault_each (forest_of (take l.i l.parts)) ≡ None;
}
