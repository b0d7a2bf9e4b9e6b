use Rattle.std.proofs.Common.{◌≡◌, ◌+◌, ◌*◌, drop}
use Rattle.arrow_arrays.specs.Parts.{tree_size, trees_size}
use Rattle.arrow_arrays.specs.PartsOf.{forest_of, parts_of}
use Rattle.laws_unify.specs.United.{taken_each, taken_parts}
use Rattle.ipc_unify.specs.Steps.{AreKept, lists_of}
use Rattle.ipc_unify.proofs.taken.+take.Given as goal

abbrev pub decreases-take_array : goal.decreases-take_array
decreases-take_array l = 8 * tree_size (parts_of l.array.now)

abbrev pub decreases-take_arrays : goal.decreases-take_arrays
decreases-take_arrays l = 8 * trees_size (forest_of l.arrays.now) + 1

abbrev pub decreases-take_dictionary : goal.decreases-take_dictionary
decreases-take_dictionary l = 8 * trees_size l.dictionary.now.children + 4

abbrev pub decreases-take_parts : goal.decreases-take_parts
decreases-take_parts l = 8 * trees_size (forest_of l.parts.now) + 2

abbrev pub invariant-take_arrays-loop-array : goal.invariant-take_arrays-loop-array
invariant-take_arrays-loop-array l = record {
  walk : taken_each (forest_of (drop l.array-index l.arrays)) l.next (lists_of l.lists.items) ≡ taken_each (forest_of l.arrays) l.number (lists_of l.fn.lists.items);
  kept : AreKept l.lists.items;
}

abbrev pub invariant-take_parts-loop-part : goal.invariant-take_parts-loop-part
invariant-take_parts-loop-part l = record {
  walk : taken_parts l.rest (forest_of (drop l.part-index l.parts)) l.number (lists_of l.lists.items) ≡ taken_parts l.held (forest_of l.parts) l.number (lists_of l.fn.lists.items);
  kept : AreKept l.lists.items;
}
