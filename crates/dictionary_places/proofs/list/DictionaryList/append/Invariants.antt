use Rattle.std.proofs.Common.{◌≡◌, drop}
use Rattle.arrow_arrays.specs.PartsOf.{forest_of}
use Rattle.laws_unify.specs.United.{behind, parts_from}
use Rattle.dictionary_places.specs.Places.{AreRows}
use Rattle.dictionary_places.proofs.list.DictionaryList.append.Given as goal

abbrev pub invariant-loop-part : goal.invariant-loop-part
invariant-loop-part l = record {
  list : behind (forest_of l.fn.self.parts.items) (parts_from l.held (forest_of l.parts)) ≡ behind (forest_of l.self.parts.items) (parts_from l.rest (forest_of (drop l.part-index l.parts)));
  rows : AreRows l.self.parts.items l.self.places.items;
}
