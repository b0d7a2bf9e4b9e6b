use Rattle.std.proofs.Common.{◌≡◌, ◌+◌, ◌*◌, map, take}
use Rattle.arrow_arrays.specs.Heads.{listed, mapped, sized, structured, tagged}
use Rattle.arrow_arrays.specs.Parts.{nested, tree_size, trees_size}
use Rattle.arrow_arrays.specs.PartsOf.{parts_of, all_parts_of, forest_of}
use Rattle.array_filter.specs.Runs.{rows_in_runs}
use Rattle.array_filter.specs.Taken.{rows_taken}
use Rattle.array_filter.proofs.trees.+take.Given as goal

abbrev pub decreases-take_runs : goal.decreases-take_runs
decreases-take_runs l = 4 * tree_size (parts_of l.array.now) + 1

abbrev pub decreases-take_list : goal.decreases-take_list
decreases-take_list l = 4 * tree_size (nested (listed l.lists.now.head) l.lists.now.children)

abbrev pub decreases-take_map : goal.decreases-take_map
decreases-take_map l = 4 * tree_size (nested (mapped l.maps.now.head) l.maps.now.children)

abbrev pub decreases-take_sized : goal.decreases-take_sized
decreases-take_sized l = 4 * tree_size (nested (sized l.lists.now.head) l.lists.now.children)

abbrev pub decreases-take_struct : goal.decreases-take_struct
decreases-take_struct l = 4 * tree_size (nested (structured l.columns.now.head) l.columns.now.children)

abbrev pub decreases-take_union : goal.decreases-take_union
decreases-take_union l = 4 * tree_size (nested (tagged l.union.now.head) l.union.now.children)

abbrev pub decreases-take_places : goal.decreases-take_places
decreases-take_places l = 4 * trees_size (forest_of l.fields.now) + 3

abbrev pub decreases-take_each : goal.decreases-take_each
decreases-take_each l = 4 * trees_size (forest_of l.arrays.now) + 2

abbrev pub invariant-take_each-loop-array : goal.invariant-take_each-loop-array
invariant-take_each-loop-array l = all_parts_of l.taken.items ≡ map (rows_taken (rows_in_runs l.runs)) (all_parts_of (take l.array-index l.arrays))
