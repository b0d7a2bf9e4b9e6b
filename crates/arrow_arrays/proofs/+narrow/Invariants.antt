use Rattle.std.proofs.Common.{◌≡◌, ◌+◌, ◌*◌, ◌≤◌, ℕ, length, get_or, take, map}
use Rattle.arrow_arrays.specs.declared.array.Array.{Array}
use Rattle.arrow_arrays.specs.Heads.{sized, structured, tagged}
use Rattle.arrow_arrays.specs.Parts.{nested, tree_size, trees_size, part_of}
use Rattle.arrow_arrays.specs.PartsOf.{parts_of, all_parts_of, forest_of}
use Rattle.arrow_arrays.proofs.+narrow.Given as goal

abbrev pub decreases-array::Array::narrow : goal.decreases-array::Array::narrow
decreases-array::Array::narrow l = 4 * tree_size (parts_of l.self.now) + 1

abbrev pub decreases-array::FixedSizeListArray::narrow : goal.decreases-array::FixedSizeListArray::narrow
decreases-array::FixedSizeListArray::narrow l = 4 * tree_size (nested (sized l.self.now.head) l.self.now.children)

abbrev pub decreases-array::StructArray::narrow : goal.decreases-array::StructArray::narrow
decreases-array::StructArray::narrow l = 4 * tree_size (nested (structured l.self.now.head) l.self.now.children)

abbrev pub decreases-array::UnionArray::narrow : goal.decreases-array::UnionArray::narrow
decreases-array::UnionArray::narrow l = 4 * tree_size (nested (tagged l.self.now.head) l.self.now.children)

abbrev pub decreases-union::narrow_places : goal.decreases-union::narrow_places
decreases-union::narrow_places l = 4 * trees_size (forest_of l.fields.now.items) + 3

abbrev pub decreases-structs::narrow_each : goal.decreases-structs::narrow_each
decreases-structs::narrow_each l = 4 * trees_size (forest_of l.arrays.now.items) + 2

abbrev pub invariant-structs::narrow_each-loop-i : goal.invariant-structs::narrow_each-loop-i
invariant-structs::narrow_each-loop-i l =
    ((length l.arrays.items ≡ length l.initial.arrays.items) × ((k : ℕ) (d : Array) → l.i ≤ k → get_or l.arrays.items k d ≡ get_or l.initial.arrays.items k d))
    × (all_parts_of (take l.i l.arrays.items) ≡ map (part_of l.offset l.rows) (all_parts_of (take l.i l.initial.arrays.items)))
